-- What an audit accepts of what a run prints (this project's profile). Each law is the clause of a
-- public function.
use Rattle.std.specs.Prelude.{ℕ, ◌≤◌, IsUtf8, List, Ok}
use Rattle.std.specs.List.{All}
use Rattle.plain_lists.specs.declared.limits.TheConstants.{MOST_PROPOSALS, MOST_AHEAD}
use Rattle.uc_model.specs.Data.{Schedule, Market, unit_names}
use Rattle.uc_model.specs.Limits.{IsMarket}
use Rattle.uc_model.specs.Systems.{IsFeasiblePlan}
use Rattle.uc_case.specs.CaseFiles.{IsCaseOf}
use Rattle.report_form.specs.ReportText.{Report}
use Rattle.right_report.specs.RightReport.{IsRightReport}
use Rattle.report_read.specs.Bounds.{IsReport}

-- a case within its limits, whose units' names are UTF-8, with a feasible plan of it
pub record IsPlannedCase (m : Market) (plan : List Schedule) : Type 0 where
  pub market : IsMarket m
  pub names : All IsUtf8 (unit_names m)
  pub feasible : IsFeasiblePlan m plan

-- a budget and a number of proposals ahead that the words of a run may give
pub record AreAsked (budget ahead : ℕ) : Type 0 where
  pub budget_at_least : 1 ≤ budget
  pub budget_at_most : budget ≤ MOST_PROPOSALS
  pub ahead_at_least : 1 ≤ ahead
  pub ahead_at_most : ahead ≤ MOST_AHEAD

-- a right report is within the bounds of reading
abbrev pub RightReportsAreInForm : Type 0
RightReportsAreInForm =
    (m : Market) (plan : List Schedule) (budget ahead : ℕ) (r : Report) →
    IsPlannedCase m plan → AreAsked budget ahead → IsRightReport m plan budget ahead r → IsReport r

-- and so is one of a case that was read
abbrev pub PrintedReportsAreInForm : Type 0
PrintedReportsAreInForm =
    (bytes : List ℕ) (m : Market) (plan : List Schedule) (budget ahead : ℕ) (r : Report) →
    IsCaseOf bytes (Ok m) → IsFeasiblePlan m plan → AreAsked budget ahead →
    IsRightReport m plan budget ahead r → IsReport r
