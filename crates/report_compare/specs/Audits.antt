-- What an audit is of, and what it comes to (this project's profile).
use Rattle.std.specs.Prelude.{◌≡◌, ℕ}
use Rattle.uc_model.specs.PlainCases.{market_of, schedules_of}
use Rattle.right_report.specs.RightReport.{IsRightReport}
use Rattle.report_read.specs.Plain.{report_of}
use Rattle.report_compare.specs.declared.audited.Audited.{Audited}
use Rattle.report_compare.specs.declared.verdict.Audit.{Audit}
use Rattle.report_compare.specs.declared.verdict.Audit.TheVariants.{Right, Wrong}
use Rattle.report_compare.specs.Heads.{right_opening}
use Rattle.report_compare.specs.ReportLines.{opening_lines}
use Rattle.report_compare.specs.Right.{DiffersFromRight}

-- the report is the right one for its own budget and number of proposals ahead
abbrev pub IsRight : Audited → Type 0
IsRight a =
    let r = report_of a.report.now in
    IsRightReport (market_of a.case.now) (schedules_of a.plan.now) r.budget r.ahead r

-- the right one exists, and this is the first line at which the report differs from it
abbrev pub IsWrongAt : Audited → ℕ → Type 0
IsWrongAt a line =
    DiffersFromRight (market_of a.case.now) (schedules_of a.plan.now) (report_of a.report.now) line

-- its first six lines are right
abbrev pub HasRightOpening : Audited → Type 0
HasRightOpening a =
    let r = report_of a.report.now in
    opening_lines r ≡ right_opening (market_of a.case.now) a.cost r

-- where a line is told, it is such a line
abbrev pub IfWrong : Audit → (ℕ → Type 0) → Type 0
IfWrong Right Line = Unit {0}
IfWrong (Wrong line) Line = Line line
