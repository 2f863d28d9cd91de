-- Jobs of one case.
use Rattle.std.specs.Prelude.{◌≡◌, List, []}
use Rattle.std.specs.List.{All}
use Rattle.uc_model.specs.Data.{PriceLists, Market, unit_count}
use Rattle.uc_model.specs.PlainCases.{market_of}
use Rattle.uc_model.specs.PlainUnits.{prices_of}
use Rattle.audit_check.specs.declared.answerer.Answerer.{Answerer}

-- each job is for the case
abbrev pub AreFor : Market → List Answerer → Type 0
AreFor m jobs = All (λ (job : Answerer). market_of job.case.now ≡ m) jobs

-- it is for the case, at these prices, and has answered nothing yet
pub record HasBegun (m : Market) (π : PriceLists) (job : Answerer) : Type 0 where
  pub market : market_of job.case.now ≡ m
  pub prices : prices_of job.prices ≡ π
  pub numbers : job.numbers.items ≡ []
  pub left : job.left ≡ unit_count m

abbrev pub HaveBegun : Market → PriceLists → List Answerer → Type 0
HaveBegun m π jobs = All (HasBegun m π) jobs
