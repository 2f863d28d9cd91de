-- The responses of the first so many units of a case, and what they earn.
use Rattle.std.specs.Prelude.{◌≡◌, ℕ, ℤ, List, take}
use Rattle.std.specs.List.{AllZip}
use Rattle.uc_model.specs.Data.{PriceLists, Schedule, Market, units}
use Rattle.uc_model.specs.Earnings.{earnings}
use Rattle.uc_model.specs.Runs.{Fits}
use Rattle.plain_lists.specs.Sums.{zip_with}

pub record AreAnswersTo (m : Market) (π : PriceLists) (count : ℕ) (responses : List Schedule)
    (earned : List ℤ) : Type 0 where
  pub fit : AllZip (λ u r. Fits u π r) (take count (units m)) responses
  pub earnings_are : earned ≡ zip_with (λ u r. earnings u π r) (take count (units m)) responses
