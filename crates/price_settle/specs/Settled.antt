-- What a plan is settled at, at any prices. Dual value, best responses and payments are those of
-- Gribik, Hogan and Pope (2007); the order among equal responses is this project's profile.
use Rattle.std.specs.Prelude.{◌≡◌, ℤ, List, length}
use Rattle.std.specs.List.{AllZip}
use Rattle.uc_model.specs.Data.{PriceLists, Schedule, Market, units, unit_count}
use Rattle.uc_model.specs.Earnings.{earnings}
use Rattle.uc_model.specs.Laws.{HasPlanShape}
use Rattle.uc_model.specs.PlainCases.{schedules_of, proposal_of}
use Rattle.uc_model.specs.PriceRule.{Proposal}
use Rattle.uc_model.specs.Runs.{HasTotals, Fits}
use Rattle.plain_lists.specs.Sums.{zip_with}
use Rattle.uc_model.specs.Systems.{IsDualValue, IsSettled}
use Rattle.price_settle.specs.declared.settled.Settled.{Settled as Kept}

-- What a settlement tells: the prices with their dual value and the totals of the responses, and
-- for each unit and bid, in the order of the units' numbers, its response, what it earns by that
-- and in the plan, and its payment; what surplus reserve is worth, and the sum of the payments.
pub record Settled : Type 0 where
  pub row : Proposal
  pub responses : List Schedule
  pub earned : List ℤ
  pub scheduled : List ℤ
  pub payments : List ℤ
  pub surplus : ℤ
  pub sum : ℤ

-- the settlement of a plan at these prices
pub record IsSettledAt (m : Market) (plan : List Schedule) (π : PriceLists) (s : Settled)
    : Type 0 where
  pub prices : s.row.prices ≡ π
  -- their exact dual value
  pub value : IsDualValue m π s.row.value
  -- of each unit the least of its best responses, their totals, and what they earn
  pub answers : AllZip (λ u r. Fits u π r) (units m) s.responses
  pub totals : HasTotals m s.responses s.row
  pub earnings_are : s.earned ≡ zip_with (λ u r. earnings u π r) (units m) s.responses
  -- what the plan earns, the payments, the surplus and the sum
  pub settled : IsSettled m plan π s.scheduled s.payments s.surplus s.sum

-- a number for each unit
pub record HasEachUnit (m : Market) (s : Settled) : Type 0 where
  pub responses : HasPlanShape m s.responses
  pub earned : length s.earned ≡ unit_count m
  pub scheduled : length s.scheduled ≡ unit_count m
  pub payments : length s.payments ≡ unit_count m

-- what the program keeps of it
abbrev pub settled_of : Kept → Settled
settled_of k = record {
  row = proposal_of k.row;
  responses = schedules_of k.responses;
  earned = k.earned.items;
  scheduled = k.settlement.scheduled.items;
  payments = k.settlement.payments.items;
  surplus = k.settlement.surplus;
  sum = k.settlement.total;
}
