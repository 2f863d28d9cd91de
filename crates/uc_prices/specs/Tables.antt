-- The table of a prices file: the prices of a value over so many periods, or the fault of the first
-- test that fails (this project's profile). Keys that the table doesn't name are skipped.
use Rattle.std.specs.Prelude.{ℕ, ℤ, pos, Bool, true, false, not, ◌&&◌, ◌==◌, nat_lt, int_lt}
use Rattle.std.specs.Prelude.{unsigned_abs, List, [], length, replicate, codes, Option, Some, None}
use Rattle.std.specs.Prelude.{Result, Ok, Err}
use Rattle.uc_model.specs.Data.{PriceLists}
use Rattle.text_tokens.specs.Rounding.{rounded}
use Rattle.uc_text.specs.Values.{Value}
use Rattle.uc_text.specs.Inside.{number_in, list_in, object_in, value_under}
use Rattle.uc_text.specs.Magnitudes.{most_price}
use Rattle.uc_text.specs.Words.{◌>>=◌, ◌>>◌, refuse, need, each, position}
use Rattle.uc_prices.specs.Faults.{site, item_at, fault}
use Rattle.uc_prices.specs.declared.fault.PriceCode.TheVariants.{Missing, WrongKind, Negative}
use Rattle.uc_prices.specs.declared.fault.PriceCode.TheVariants.{TooLarge, WrongLength}
use Rattle.uc_prices.specs.declared.fault.PriceFault.{PriceFault}
use Rattle.uc_prices.specs.declared.fault.PriceField.{PriceField}
use Rattle.uc_prices.specs.declared.fault.PriceField.TheVariants.{Whole, Energy, Reserve}
use Rattle.uc_prices.specs.declared.fault.PriceSite.{PriceSite}

-- What tests of prices give: a value, or the fault of the first test that failed.
abbrev pub Read : Type 0 → Type 0
Read A = Result A PriceFault

abbrev pub is_reserve : PriceField → Bool
is_reserve Reserve = true
is_reserve _ = false

-- a price in thousandths: money for a kilowatt of currency for a megawatt. A reserve price isn't
-- below 0.
unfoldable pub price : PriceSite → Value → Read ℤ
price at v = do
  d ← need (fault at WrongKind) (number_in v)
  refuse (fault at TooLarge) (nat_lt most_price (unsigned_abs (rounded d 3)))
  refuse (fault at Negative) (is_reserve at.field && int_lt (rounded d 3) (pos 0))
  Ok (rounded d 3)

-- the items of a list, each at the site of its position
unfoldable pub prices : PriceSite → List Value → Read (List ℤ)
prices at vs = each (λ before. price (item_at at (position before))) [] vs

-- a list of a price for each period
unfoldable pub list : ℕ → PriceField → Value → Read (List ℤ)
list periods field v = do
  vs ← need (fault (site field) WrongKind) (list_in v)
  refuse (fault (site field) WrongLength) (not (length vs == periods))
  prices (site field) vs

-- the energy prices must be there
unfoldable pub energy : ℕ → Option Value → Read (List ℤ)
energy periods None = Err (fault (site Energy) Missing)
energy periods (Some v) = list periods Energy v

-- the reserve prices are 0 where they aren't there
unfoldable pub reserve : ℕ → Option Value → Read (List ℤ)
reserve periods None = Ok (replicate periods (pos 0))
reserve periods (Some v) = list periods Reserve v

unfoldable pub prices_in : ℕ → Value → Read PriceLists
prices_in periods v = do
  ms ← need (fault (site Whole) WrongKind) (object_in v)
  energy ← energy periods (value_under (codes "energy") ms)
  reserve ← reserve periods (value_under (codes "reserve") ms)
  Ok (record { energy = energy; reserve = reserve })
