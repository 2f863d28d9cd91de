-- What holds of two runs of a case that have the same number of proposals ahead (this project's
-- profile). Each law is the clause of a public function.
use Rattle.std.specs.Prelude.{◌≡◌, ℕ, ◌≤◌, ℤ, ◌≤ℤ◌, List, take, length}
use Rattle.uc_model.specs.Data.{Schedule, Market}
use Rattle.uc_model.specs.PriceRule.{Proposal}
use Rattle.uc_model.specs.Runs.{IsRun, Fits}
use Rattle.report_form.specs.ReportText.{Report}
use Rattle.right_report.specs.RightReport.{IsRightReport}

-- a longer run begins with the proposals of a shorter one
abbrev pub LongerRunsBeginSo : Type 0
LongerRunsBeginSo =
    (m : Market) (cost : ℤ) (budget more ahead : ℕ) (rows longer : List Proposal) → budget ≤ more →
    IsRun Fits m cost budget ahead rows → IsRun Fits m cost more ahead longer →
    take (length rows) longer ≡ rows

-- The longer report begins with the rows of the shorter one. Its value is no less, and its gap no
-- larger.
pub record GoesOn (shorter longer : Report) : Type 0 where
  pub rows : take (length shorter.rows) longer.rows ≡ shorter.rows
  pub value : shorter.value ≤ℤ longer.value
  pub gap : longer.gap ≤ℤ shorter.gap

-- the right report of a larger budget goes on from that of a smaller one
abbrev pub LargerBudgetsAreNoWorse : Type 0
LargerBudgetsAreNoWorse =
    (m : Market) (plan : List Schedule) (budget more ahead : ℕ) (shorter longer : Report) →
    budget ≤ more → IsRightReport m plan budget ahead shorter →
    IsRightReport m plan more ahead longer → GoesOn shorter longer
