-- What exists for each unit and each case (best responses and the dual are those of Gribik, Hogan
-- and Pope 2007). Each law is the clause of a public function of its name.
use Rattle.std.specs.Prelude.{◌≡◌, ℕ, ◌≤◌, ℤ, List, length}
use Rattle.std.specs.List.{AllZip}
use Rattle.uc_model.specs.Data.{AnyUnit, PriceLists, Schedule, Market, units}
use Rattle.uc_model.specs.PriceRule.{Proposal}
use Rattle.uc_model.specs.Runs.{IsRun, Fits}
use Rattle.uc_model.specs.Schedules.{IsFeasible}
use Rattle.uc_model.specs.Systems.{IsFeasiblePlan, IsDualValue}
use Rattle.report_form.specs.ReportText.{Report}
use Rattle.right_report.specs.RightReport.{IsRightReport}

-- a unit with a feasible schedule over the horizon of some prices has a response that fits them
abbrev pub BestResponsesExist : Type 0
BestResponsesExist =
    (u : AnyUnit) (π : PriceLists) (feasible : Schedule) →
    IsFeasible u (length π.energy) feasible → (s : Schedule) × Fits u π s

-- each unit has a feasible schedule, whether they are in balance or not
abbrev pub AreFeasible : Market → List Schedule → Type 0
AreFeasible m schedules =
    AllZip (λ (u : AnyUnit) (s : Schedule). IsFeasible u m.periods s) (units m) schedules

-- then any prices over the horizon have a dual value
abbrev pub DualValuesExist : Type 0
DualValuesExist =
    (m : Market) (π : PriceLists) (feasible : List Schedule) → length π.energy ≡ m.periods →
    AreFeasible m feasible → (value : ℤ) × IsDualValue m π value

-- and there is a run
abbrev pub RunsExist : Type 0
RunsExist =
    (m : Market) (cost : ℤ) (budget ahead : ℕ) (feasible : List Schedule) → 1 ≤ ahead →
    AreFeasible m feasible → (rows : List Proposal) × IsRun Fits m cost budget ahead rows

-- and a case with a feasible plan has a right report: one that tells of the run, and of the first
-- row of the greatest value in it
abbrev pub RightReportsExist : Type 0
RightReportsExist =
    (m : Market) (plan : List Schedule) (budget ahead : ℕ) → IsFeasiblePlan m plan →
    1 ≤ budget → 1 ≤ ahead → (r : Report) × IsRightReport m plan budget ahead r
