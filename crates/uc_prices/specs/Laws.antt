-- A file has one list of prices over so many periods, or one first fault.
use Rattle.std.specs.Prelude.{◌≡◌, ℕ, pos, List, length, replicate, codes, Result, Ok, Some, None}
use Rattle.std.specs.List.{All}
use Rattle.uc_model.specs.Data.{PriceLists}
use Rattle.uc_text.specs.Pairs.{Pair}
use Rattle.uc_text.specs.Values.{Value}
use Rattle.uc_text.specs.Texts.{IsText}
use Rattle.uc_text.specs.Files.{FileFault}
use Rattle.uc_text.specs.Inside.{object_in, value_under}
use Rattle.uc_prices.specs.Kept.{IsPriceOf}
use Rattle.uc_prices.specs.PricesFiles.{IsPricesOf}
use Rattle.uc_prices.specs.declared.fault.PriceFault.{PriceFault}
use Rattle.uc_prices.specs.declared.fault.PriceField.TheVariants.{Energy, Reserve}

abbrev pub PricesFileHasOneValueOrOneFault : Type 0
PricesFileHasOneValueOrOneFault = (periods : ℕ) (bytes : List ℕ) (r s : Result PriceLists (FileFault PriceFault))
    → IsPricesOf periods bytes r → IsPricesOf periods bytes s → r ≡ s

-- the bytes are an object without reserve prices
abbrev pub LeavesReserveOut : List ℕ → Type 0
LeavesReserveOut bytes =
    (v : Value) × (members : List Pair) × IsText 32 bytes v × (object_in v ≡ Some members)
    × (value_under (codes "reserve") members ≡ None)

-- a file's prices: of both kinds one for each period, each within its limits, so that no reserve
-- price is below 0; all of those are 0 where the file leaves them out
pub record HaveForm (periods : ℕ) (bytes : List ℕ) (π : PriceLists) : Type 0 where
  pub energy : length π.energy ≡ periods
  pub reserve : length π.reserve ≡ periods
  pub energy_within : All (IsPriceOf Energy) π.energy
  pub reserve_within : All (IsPriceOf Reserve) π.reserve
  pub left_out : LeavesReserveOut bytes → π.reserve ≡ replicate periods (pos 0)

abbrev pub PricesArePerPeriodAndWithinLimits : Type 0
PricesArePerPeriodAndWithinLimits = (periods : ℕ) (bytes : List ℕ) (π : PriceLists) → IsPricesOf periods bytes (Ok π)
    → HaveForm periods bytes π
