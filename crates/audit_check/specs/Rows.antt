-- Rows of a run, one after another.
use Rattle.std.specs.Prelude.{◌≡◌, ℕ, suc, ◌-◌, ◌<◌, ◌≤◌, ℤ, IsTrue, IsFalse}
use Rattle.std.specs.Prelude.{List, take, length, slice_index_or}
use Rattle.std.specs.List.{All, AllZip}
use Rattle.price_space.specs.Sizes.{IsRowBelow}
use Rattle.uc_model.specs.Data.{PriceLists, Schedule, Market, units}
use Rattle.uc_model.specs.PriceRule.{Proposal, price_rule, is_settled}
use Rattle.uc_model.specs.Runs.{HasTotals, AreRightRows, Fits}
use Rattle.uc_model.specs.Systems.{IsFeasiblePlan, plan_cost, IsDualValue}

-- some feasible plan has this cost
abbrev pub IsCostOfPlan : Market → ℤ → Type 0
IsCostOfPlan m cost = (plan : List Schedule) × IsFeasiblePlan m plan × (plan_cost m plan ≡ cost)

-- the row of a proposal at these prices: its dual value, and the totals of one response per unit
-- that fits them
pub record IsRowAt (m : Market) (π : PriceLists) (r : Proposal) : Type 0 where
  pub prices : r.prices ≡ π
  pub value : IsDualValue m π r.value
  pub schedules : List Schedule
  pub answers : AllZip (λ u s. Fits u π s) (units m) schedules
  pub totals : HasTotals m schedules r

-- a run as far as it has come: right rows, none of them opened behind a settled one, whose sizes
-- the price rule can work with
pub record IsRunSoFar (m : Market) (cost : ℤ) (ahead : ℕ) (rows : List Proposal) : Type 0 where
  pub right : AreRightRows Fits m cost ahead rows
  pub open_so_far : (k : ℕ) (d : Proposal) → k < length rows - ahead →
      IsFalse (is_settled m cost (slice_index_or rows k d))
  pub below : All (IsRowBelow m cost) rows

-- the prices of the proposal after these rows, which no settled row keeps from being opened
pub record IsNextProposal (m : Market) (cost : ℤ) (ahead : ℕ) (rows : List Proposal)
    (π : PriceLists) : Type 0 where
  pub prices :
      π ≡ price_rule m cost ahead (take (suc (length rows) - ahead) rows) (suc (length rows))
  pub open_so_far : (d : Proposal) → ahead ≤ length rows →
      IsFalse (is_settled m cost (slice_index_or rows (length rows - ahead) d))

-- no proposal follows these rows: the row that its prices would follow from is settled
pub record IsLast (m : Market) (cost : ℤ) (ahead : ℕ) (rows : List Proposal) : Type 0 where
  pub enough : ahead ≤ length rows
  pub settled : (d : Proposal) →
      IsTrue (is_settled m cost (slice_index_or rows (length rows - ahead) d))
