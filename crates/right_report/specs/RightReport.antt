-- What a right report tells of a case and a plan. The dual value, best responses and payments are
-- those of Gribik, Hogan and Pope (2007); the price rule and the order among equal responses are
-- this project's profile.
use Rattle.std.specs.Prelude.{◌≡◌, ℕ, ◌-◌, ◌-ℤ◌, Some, List, ◌++◌, map, slice_get}
use Rattle.std.specs.List.{AllZip}
use Rattle.uc_model.specs.Data.{NamedThermalUnit, NamedRenewableUnit, NamedBidUnit, Schedule}
use Rattle.uc_model.specs.Data.{Market, units, unit_count}
use Rattle.uc_model.specs.Earnings.{IsTop}
use Rattle.uc_model.specs.PriceRule.{Proposal, chosen_number}
use Rattle.uc_model.specs.Runs.{HasTotals, IsRun, Fits}
use Rattle.uc_model.specs.Systems.{plan_cost, IsSettled}
use Rattle.report_form.specs.ReportText.{UnitLine, Report}

-- the lines of all units and bids, in the order of their numbers
abbrev pub unit_lines : Report → List UnitLine
unit_lines r = r.thermal ++ r.renewable ++ r.bids

-- each kind of unit stands with its names, in the order of the case
pub record HasNames (m : Market) (r : Report) : Type 0 where
  pub thermal : map (λ (l : UnitLine). l.name) r.thermal
      ≡ map (λ (n : NamedThermalUnit). n.name) m.thermal
  pub renewable : map (λ (l : UnitLine). l.name) r.renewable
      ≡ map (λ (n : NamedRenewableUnit). n.name) m.flat
  pub bids : map (λ (l : UnitLine). l.name) r.bids ≡ map (λ (n : NamedBidUnit). n.name) m.bids

-- The report of a run with that budget and that number of proposals ahead.
pub record IsRightReport (m : Market) (plan : List Schedule) (budget ahead : ℕ) (r : Report) : Type
    0 where
  pub periods_are : r.periods ≡ m.periods
  pub units_are : r.units ≡ unit_count m
  pub budget_is : r.budget ≡ budget
  pub ahead_is : r.ahead ≡ ahead
  pub cost_is : r.cost ≡ plan_cost m plan
  -- it lists every proposal that the budget and the price rule call for, with its exact dual value
  pub run : IsRun Fits m (plan_cost m plan) budget ahead r.rows
  -- the chosen row is the first with the greatest value
  pub chosen_is : r.chosen ≡ chosen_number r.rows
  pub row : Proposal
  pub is_chosen : slice_get r.rows (r.chosen - 1) ≡ Some row
  pub value_is : r.value ≡ row.value
  -- each unit and bid stands with its name and with a response that fits the chosen prices
  pub names : HasNames m r
  pub responses_fit : AllZip (λ u (l : UnitLine). Fits u row.prices l.response) (units m)
      (unit_lines r)
  pub totals : HasTotals m (map (λ (l : UnitLine). l.response) (unit_lines r)) row
  -- the money of each is that of the settlement at the chosen prices, and so are the surplus and
  -- the sum of the payments
  pub earned : AllZip (λ u (l : UnitLine). IsTop u row.prices l.earned) (units m) (unit_lines r)
  pub settled : IsSettled m plan row.prices (map (λ (l : UnitLine). l.scheduled) (unit_lines r))
      (map (λ (l : UnitLine). l.payment) (unit_lines r)) r.surplus r.payments
  pub gap_is : r.gap ≡ r.cost -ℤ r.value
