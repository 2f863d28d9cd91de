-- What the prices of a value are, and when each fault comes, by the value alone (this project's
-- profile).
use Rattle.std.specs.Prelude.{◌≡◌, ◌≢◌, ℕ, zero, suc, ◌<◌, ℤ, pos, neg_ℤ, ◌<ℤ◌, ◌⊎◌, List, length}
use Rattle.std.specs.Prelude.{replicate, codes, slice_get, Option, Some, None, Result, Ok, Err}
use Rattle.plain_lists.specs.Ranges.{IsFrom}
use Rattle.uc_model.specs.Data.{PriceLists}
use Rattle.uc_model.specs.Limits.{price_limit}
use Rattle.text_tokens.specs.declared.decimal.Decimal.{Decimal}
use Rattle.text_tokens.specs.Rounding.{IsRounded}
use Rattle.uc_text.specs.Pairs.{Pair}
use Rattle.uc_text.specs.Values.{Value}
use Rattle.uc_text.specs.Inside.{number_in, list_in, object_in, value_under}
use Rattle.uc_prices.specs.Kept.{IsPriceOf}
use Rattle.uc_prices.specs.declared.fault.PriceCode.{PriceCode}
use Rattle.uc_prices.specs.declared.fault.PriceCode.TheVariants.{Missing, WrongKind, Negative}
use Rattle.uc_prices.specs.declared.fault.PriceCode.TheVariants.{TooLarge, WrongLength}
use Rattle.uc_prices.specs.declared.fault.PriceFault.{PriceFault}
use Rattle.uc_prices.specs.declared.fault.PriceField.{PriceField}
use Rattle.uc_prices.specs.declared.fault.PriceField.TheVariants.{Whole, Energy, Reserve}

-- ---- an item

-- it is a number that reads as this price in thousandths
abbrev pub ReadsAs : Value → ℤ → Type 0
ReadsAs v x = (d : Decimal) × (number_in v ≡ Some d) × IsRounded d 3 x

-- and so it is a price of the list
abbrev pub IsItem : PriceField → Value → ℤ → Type 0
IsItem field v x = ReadsAs v x × IsPriceOf field x

-- the reading is above the limit in magnitude
abbrev pub IsTooLarge : ℤ → Type 0
IsTooLarge x = (price_limit <ℤ x) ⊎ (x <ℤ neg_ℤ price_limit)

-- or it isn't: it is no number, or reads too large, or, of a reserve price alone, below 0
abbrev pub IsItemFault : PriceField → Value → PriceCode → Type 0
IsItemFault field v WrongKind = number_in v ≡ None
IsItemFault field v TooLarge = (x : ℤ) × ReadsAs v x × IsTooLarge x
IsItemFault field v Negative =
    (field ≡ Reserve) × (x : ℤ) × ReadsAs v x × IsFrom (neg_ℤ price_limit) price_limit x
    × (x <ℤ pos 0)
IsItemFault field v _ = ⊥

-- ---- a list

-- this stands at the index
abbrev pub IsItemAt : {A : Type 0} → List A → ℕ → A → Type 0
IsItemAt xs k x = slice_get xs k ≡ Some x

-- the value is a list of a price for each period
pub record IsPriceList (periods : ℕ) (field : PriceField) (v : Value) (xs : List ℤ) : Type 0 where
  pub items : List Value
  pub is_list : list_in v ≡ Some items
  pub long : length items ≡ periods
  pub as_many : length xs ≡ periods
  pub prices : (k : ℕ) (item : Value) (x : ℤ) → IsItemAt items k item → IsItemAt xs k x →
      IsItem field item x

-- the list as a whole, item 0: it is none, or not of that length
abbrev pub IsWholeFault : ℕ → Value → PriceCode → Type 0
IsWholeFault periods v WrongKind = list_in v ≡ None
IsWholeFault periods v WrongLength =
    (items : List Value) × (list_in v ≡ Some items) × (length items ≢ periods)
IsWholeFault periods v _ = ⊥

-- the list has that length, and at this index the first item that is no price
pub record IsFirstItemFault (periods : ℕ) (field : PriceField) (v : Value) (code : PriceCode)
    (k : ℕ) : Type 0 where
  pub items : List Value
  pub is_list : list_in v ≡ Some items
  pub long : length items ≡ periods
  pub before : (i : ℕ) (item : Value) → i < k → IsItemAt items i item →
      (x : ℤ) × IsItem field item x
  pub item : Value
  pub stands : IsItemAt items k item
  pub fault : IsItemFault field item code

-- items are numbered from 1
abbrev pub IsListFault : ℕ → PriceField → Value → PriceCode → ℕ → Type 0
IsListFault periods field v code zero = IsWholeFault periods v code
IsListFault periods field v code (suc k) = IsFirstItemFault periods field v code k

-- ---- the two lists, which may be left out

abbrev pub AreEnergyPrices : ℕ → Option Value → List ℤ → Type 0
AreEnergyPrices periods None xs = ⊥
AreEnergyPrices periods (Some v) xs = IsPriceList periods Energy v xs

abbrev pub AreReservePrices : ℕ → Option Value → List ℤ → Type 0
AreReservePrices periods None xs = xs ≡ replicate periods (pos 0)
AreReservePrices periods (Some v) xs = IsPriceList periods Reserve v xs

abbrev pub IsEnergyFault : ℕ → Option Value → PriceCode → ℕ → Type 0
IsEnergyFault periods None code item = (code ≡ Missing) × (item ≡ 0)
IsEnergyFault periods (Some v) code item = IsListFault periods Energy v code item

abbrev pub IsReserveFault : ℕ → Option Value → PriceCode → ℕ → Type 0
IsReserveFault periods None code item = ⊥
IsReserveFault periods (Some v) code item = IsListFault periods Reserve v code item

-- ---- the value

-- it is an object with both lists
pub record HasPrices (periods : ℕ) (v : Value) (π : PriceLists) : Type 0 where
  pub members : List Pair
  pub is_object : object_in v ≡ Some members
  pub energy : AreEnergyPrices periods (value_under (codes "energy") members) π.energy
  pub reserve : AreReservePrices periods (value_under (codes "reserve") members) π.reserve

-- the fault is that of the outermost value, or else of the energy prices, or else of the reserve
abbrev pub HasFault : ℕ → Value → PriceField → PriceCode → ℕ → Type 0
HasFault periods v Whole code item = (object_in v ≡ None) × (code ≡ WrongKind) × (item ≡ 0)
HasFault periods v Energy code item =
    (members : List Pair) × (object_in v ≡ Some members)
    × IsEnergyFault periods (value_under (codes "energy") members) code item
HasFault periods v Reserve code item =
    (members : List Pair) × (object_in v ≡ Some members)
    × ((xs : List ℤ) × AreEnergyPrices periods (value_under (codes "energy") members) xs)
    × IsReserveFault periods (value_under (codes "reserve") members) code item

-- what is read of the value
abbrev pub IsReadAs : ℕ → Value → Result PriceLists PriceFault → Type 0
IsReadAs periods v (Ok π) = HasPrices periods v π
IsReadAs periods v (Err f) = HasFault periods v f.field f.code f.item
