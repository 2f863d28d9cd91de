-- What a prices file is over so many periods, and what its reader answers.
use Rattle.std.specs.Prelude.{ℕ, List, Result, Ok, Err}
use Rattle.uc_model.specs.Data.{PriceLists}
use Rattle.uc_text.specs.Files.{FileFault, text, value, IsReading}
use Rattle.uc_prices.specs.Tables.{prices_in}
use Rattle.uc_prices.specs.declared.fault.PriceFault.{PriceFault}
use Rattle.uc_prices.specs.declared.fault.PricesFault.{PricesFault}
use Rattle.uc_prices.specs.declared.fault.PricesFault.TheVariants as faults

-- the bytes of a prices file are these prices over so many periods, or have this fault first
abbrev pub IsPricesOf : ℕ → List ℕ → Result PriceLists (FileFault PriceFault) → Type 0
IsPricesOf periods = IsReading (prices_in periods)

-- P of the answer; nothing where memory ran out
abbrev pub IfRead : {X A : Type 0} → (X → A) → Result X PricesFault
    → (Result A (FileFault PriceFault) → Type 0) → Type 0
IfRead view (Ok x) P = P (Ok (view x))
IfRead view (Err (faults.Text f)) P = P (Err (text f))
IfRead view (Err (faults.Price f)) P = P (Err (value f))
IfRead view (Err faults.Memory) P = Unit {0}
