-- The report of a record: of what a closed board holds, and of a settlement at its chosen prices
-- (this project's profile).
use Rattle.std.specs.Prelude.{◌≡◌, ℕ, suc, ◌+◌, ◌-◌, ◌<◌, ◌≤◌, ℤ, ◌-ℤ◌, true, Some, List, [], ◌∷◌}
use Rattle.std.specs.Prelude.{map, length, slice_get}
use Rattle.std.specs.List.{AllZip}
use Rattle.board_store.specs.Board.{Answer, Content, rules_of, IsLegalHistory}
use Rattle.board_store.specs.Calls.{own_rows, has_finished}
use Rattle.board_store.specs.Rounds.{posts, answer_at}
use Rattle.uc_model.specs.Data.{PriceLists, Schedule, Market, units, unit_count}
use Rattle.uc_model.specs.Data.{thermal_names, renewable_names, bid_names}
use Rattle.uc_model.specs.Earnings.{IsTop}
use Rattle.uc_model.specs.PriceRule.{Proposal, chosen_number}
use Rattle.plain_lists.specs.Sums.{int_at}
use Rattle.uc_model.specs.Systems.{IsFeasiblePlan, plan_cost, IsSettled}
use Rattle.price_settle.specs.declared.settlement.Settlement.{Settlement}
use Rattle.report_form.specs.ReportText.{UnitLine, Report}
use Rattle.right_report.specs.RightReport.{IsRightReport}

-- the line of a unit of that number and name: its answer to the proposal, and its money in the
-- settlement
abbrev pub told_line : Answer → (scheduled payment : ℤ) → List ℕ → UnitLine
told_line a scheduled payment name =
    record {
      name = name;
      earned = a.earned;
      scheduled = scheduled;
      payment = payment;
      response = a.schedule;
    }

abbrev pub line_of : Content → Settlement → (proposal number : ℕ) → List ℕ → UnitLine
line_of c s proposal number name =
    told_line (answer_at (rules_of c.setup) (posts c.events) proposal number)
    (int_at s.scheduled.items number) (int_at s.payments.items number) name

-- the lines of units of these names, whose numbers count on from the first
abbrev pub lines_from : {Line : Type 0} → (ℕ → List ℕ → Line) → ℕ → List (List ℕ) → List Line
lines_from line first [] = []
lines_from line first (name ∷ names) = line first name ∷ lines_from line (first + 1) names

-- the number from 1 of the first row with the greatest value, and that value
abbrev pub chosen_of : Content → ℕ
chosen_of c = chosen_number (own_rows c)

abbrev pub value_of : Content → ℤ
value_of c = int_at (map (λ (r : Proposal). r.value) (own_rows c)) (chosen_of c - 1)

unfoldable pub report_of : Content → Settlement → Report
report_of c s = record {
  periods = c.setup.market.periods;
  units = unit_count c.setup.market;
  budget = c.setup.budget;
  ahead = c.setup.ahead;
  cost = c.setup.cost;
  rows = own_rows c;
  chosen = chosen_of c;
  value = value_of c;
  thermal = lines_from (line_of c s (chosen_of c)) 0 (thermal_names c.setup.market);
  renewable =
      lines_from (line_of c s (chosen_of c)) (length c.setup.market.thermal)
      (renewable_names c.setup.market);
  bids =
      lines_from (line_of c s (chosen_of c)) (length c.setup.market.thermal
      + length c.setup.market.flat) (bid_names c.setup.market);
  surplus = s.surplus;
  payments = s.total;
  gap = c.setup.cost -ℤ value_of c;
}

-- ---- where that report is right

-- a finished record, of a feasible plan at its cost, with the settlement of that plan at the prices
-- of the chosen row
pub record IsSettledRecord (c : Content) (s : Settlement) (row : Proposal) : Type 0 where
  pub some_unit : 1 ≤ unit_count c.setup.market
  pub some_budget : 1 ≤ c.setup.budget
  pub some_ahead : 1 ≤ c.setup.ahead
  pub feasible : IsFeasiblePlan c.setup.market c.setup.plan
  pub cost : c.setup.cost ≡ plan_cost c.setup.market c.setup.plan
  pub legal : IsLegalHistory c.setup c.events
  pub finished : has_finished c ≡ true
  pub chosen : slice_get (own_rows c) (chosen_of c - 1) ≡ Some row
  pub settled : IsSettled c.setup.market c.setup.plan row.prices s.scheduled.items s.payments.items
      s.surplus s.total

abbrev pub ReportOfFinishedBoardIsRight : Type 0
ReportOfFinishedBoardIsRight =
    (c : Content) (s : Settlement) (row : Proposal) → IsSettledRecord c s row →
    IsRightReport c.setup.market c.setup.plan c.setup.budget c.setup.ahead (report_of c s)

-- the settlement of a feasible plan has one number for each unit
abbrev pub SettlementHasEntryForEachUnit : Type 0
SettlementHasEntryForEachUnit =
    (m : Market) (plan : List Schedule) (π : PriceLists) (scheduled payments : List ℤ)
    (surplus sum : ℤ) →
    IsFeasiblePlan m plan → IsSettled m plan π scheduled payments surplus sum →
    (length scheduled ≡ unit_count m) × (length payments ≡ unit_count m)

-- what the answers to a row earn is what the units earn at best at its prices
abbrev pub AnswersToRowEarnTheMost : Type 0
AnswersToRowEarnTheMost =
    (c : Content) (k : ℕ) (row : Proposal) → 1 ≤ c.setup.ahead → IsLegalHistory c.setup c.events →
    slice_get (own_rows c) k ≡ Some row → (earned : List ℤ) →
    length earned ≡ unit_count c.setup.market →
    ((u : ℕ) → u < unit_count c.setup.market →
    int_at earned u ≡ (answer_at (rules_of c.setup) (posts c.events) (suc k) u).earned) →
    AllZip (λ u e. IsTop u row.prices e) (units c.setup.market) earned
