-- What the table of a prices file says of a value, and that each file has a reading. Each law is the clause of a public
-- function.
use Rattle.std.specs.Prelude.{ℕ, List, Result}
use Rattle.uc_model.specs.Data.{PriceLists}
use Rattle.uc_text.specs.Values.{Value}
use Rattle.uc_text.specs.Files.{FileFault}
use Rattle.uc_prices.specs.PricesFiles.{IsPricesOf}
use Rattle.uc_prices.specs.Tables.{prices_in}
use Rattle.uc_prices.specs.declared.fault.PriceFault.{PriceFault}
use Rattle.law_parts.specs.PlainPrices.{IsReadAs}

abbrev pub SomePrices : Type 0
SomePrices = (periods : ℕ) (bytes : List ℕ)
    → (r : Result PriceLists (FileFault PriceFault)) × IsPricesOf periods bytes r

-- the table of a value says what stands in it
abbrev pub ValuesAreReadAs : Type 0
ValuesAreReadAs = (periods : ℕ) (v : Value) → IsReadAs periods v (prices_in periods v)
