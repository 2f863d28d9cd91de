-- Where a report differs from the right one (this project's profile).
use Rattle.std.specs.Prelude.{ℕ, List}
use Rattle.uc_model.specs.Data.{Schedule, Market}
use Rattle.uc_model.specs.Systems.{IsFeasiblePlan}
use Rattle.report_form.specs.ReportText.{Report, report_text}
use Rattle.right_report.specs.RightReport.{IsRightReport}
use Rattle.report_read.specs.Bounds.{IsReport}
use Rattle.report_read.specs.Differences.{DiffersAt}

-- from the right report for the same budget and number of proposals ahead
abbrev pub DiffersFromRight : Market → List Schedule → Report → ℕ → Type 0
DiffersFromRight m plan r line =
    (right : Report) × IsRightReport m plan r.budget r.ahead right
    × DiffersAt (report_text r) (report_text right) line

-- A report within the bounds of reading that isn't right for a feasible plan has a first line that
-- differs. The law is the clause of a public function.
abbrev pub SomeDifference : Type 0
SomeDifference =
    (m : Market) (plan : List Schedule) (r : Report) → IsFeasiblePlan m plan → IsReport r →
    (IsRightReport m plan r.budget r.ahead r → ⊥) → (line : ℕ) × DiffersFromRight m plan r line
