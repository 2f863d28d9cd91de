-- What holds of every report. Each law is the clause of a public function.
use Rattle.std.specs.Prelude.{◌≡◌, ℕ, suc, ◌<◌, ◌≤◌, ℤ, ◌+ℤ◌, ◌-ℤ◌, List, length}
use Rattle.uc_model.specs.Data.{Schedule, Market}
use Rattle.uc_model.specs.PriceRule.{Proposal, chosen_number}
use Rattle.uc_model.specs.Runs.{IsRun, Fits}
use Rattle.uc_model.specs.Systems.{IsFeasiblePlan}
use Rattle.report_form.specs.Laws.{HasForm}
use Rattle.report_form.specs.ReportText.{Report}
use Rattle.right_report.specs.RightReport.{IsRightReport}

-- a right report has the form of a report: at most one has a given text
abbrev pub RightReportHasForm : Type 0
RightReportHasForm =
    (m : Market) (plan : List Schedule) (budget ahead : ℕ) (r : Report) →
    IsRightReport m plan budget ahead r → HasForm r

-- where there is a row, one is chosen
abbrev pub OneIsChosen : Type 0
OneIsChosen =
    (rows : List Proposal) → 1 ≤ length rows → (k : ℕ) × (k < length rows)
    × (chosen_number rows ≡ suc k)

-- at most one list of rows is a run
abbrev pub OneRun : Type 0
OneRun =
    (m : Market) (cost : ℤ) (budget ahead : ℕ) (rows other : List Proposal) →
    IsRun Fits m cost budget ahead rows → IsRun Fits m cost budget ahead other → rows ≡ other

-- at most one report is right
abbrev pub OneRightReport : Type 0
OneRightReport =
    (m : Market) (plan : List Schedule) (budget ahead : ℕ) (r other : Report) →
    IsRightReport m plan budget ahead r → IsRightReport m plan budget ahead other → r ≡ other

-- the settlement identity (Gribik, Hogan and Pope 2007) as a right report of a feasible plan tells
-- it: payments and surplus make up what the chosen value lacks of the cost
abbrev pub ReportPaymentsMakeUpTheGap : Type 0
ReportPaymentsMakeUpTheGap =
    (m : Market) (plan : List Schedule) (budget ahead : ℕ) (r : Report) →
    IsFeasiblePlan m plan → IsRightReport m plan budget ahead r →
    r.payments +ℤ r.surplus ≡ r.cost -ℤ r.value
