-- The answer of the reader is the only one.
use Rattle.uc_prices.proofs.Common.{◌≡◌, ℕ, List, Result, Ok, Err, PriceLists, prices_of, FileFault, text, value}
use Rattle.uc_prices.proofs.Common.{PriceFault}
use Rattle.uc_model.specs.declared.units.Prices.{Prices}
use Rattle.uc_prices.specs.Laws.{PricesFileHasOneValueOrOneFault}
use Rattle.uc_prices.specs.PricesFiles.{IsPricesOf, IfRead}
use Rattle.uc_prices.specs.declared.fault.PricesFault.{PricesFault}
use Rattle.uc_prices.specs.declared.fault.PricesFault.TheVariants as faults

pub is_only : PricesFileHasOneValueOrOneFault → (periods : ℕ) (bytes : List ℕ) (a : Result Prices PricesFault) →
    IfRead prices_of a (λ r. IsPricesOf periods bytes r) → (r : Result PriceLists (FileFault PriceFault)) →
    IsPricesOf periods bytes r → IfRead prices_of a (λ s. s ≡ r)
is_only law periods bytes (Ok p) answer r is = law periods bytes (Ok (prices_of p)) r answer is
is_only law periods bytes (Err (faults.Text f)) answer r is = law periods bytes (Err (text f)) r answer is
is_only law periods bytes (Err (faults.Price f)) answer r is = law periods bytes (Err (value f)) r answer is
is_only law periods bytes (Err faults.Memory) answer r is = tt
