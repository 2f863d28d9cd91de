-- The steps of a command beside those of its files, which are in hull_input's Steps: the case that a
-- number stands for, and whether a report is right (this project's profile). What a right report is
-- is said in right_report.
use Rattle.std.specs.Prelude.{◌≡◌, ℕ, Result, Ok, Err}
use Rattle.uc_model.specs.Systems.{IsFeasiblePlan, plan_cost}
use Rattle.case_make.specs.Made.{made}
use Rattle.hull_fault.specs.declared.fault.FileKind.TheVariants.{ReportFile}
use Rattle.hull_fault.specs.declared.fault.ReportCode.TheVariants.{Wrong}
use Rattle.hull_fault.specs.declared.fault.TopFault.{TopFault}
use Rattle.hull_fault.specs.declared.fault.TopFault.TheVariants.{Report as Unfit}
use Rattle.report_form.specs.ReportText.{Report}
use Rattle.right_report.specs.RightReport.{IsRightReport}
use Rattle.report_compare.specs.Right.{DiffersFromRight}
use Rattle.hull_input.specs.Files.{Reads}
use Rattle.hull_input.specs.Planned.{PlannedCase}
use Rattle.hull_input.specs.Steps.{Then, IsReportFile, IsWithinWork}

-- ---- a made case

-- the case that a number stands for, with its feasible schedule
abbrev pub made_case : ℕ → PlannedCase
made_case number = record {
  market = (made number).market;
  plan = (made number).plan;
  cost = plan_cost (made number).market (made number).plan;
}

abbrev pub IsMade : ℕ → Result PlannedCase TopFault → Type 0
IsMade number (Ok c) = IsFeasiblePlan c.market c.plan × (c ≡ made_case number)
IsMade number (Err f) = ⊥

-- ---- an audit

-- an input is left by a report that is right for its own budget and number of proposals ahead, and
-- by any other comes the first line at which it differs from the one that is
abbrev pub IsJudged : Report → PlannedCase → Result PlannedCase TopFault → Type 0
IsJudged r c (Ok left) =
    IsRightReport c.market c.plan r.budget r.ahead r × (left ≡ c)
IsJudged r c (Err f) =
    (line : ℕ) × (IsRightReport c.market c.plan r.budget r.ahead r → ⊥)
    × DiffersFromRight c.market c.plan r line × (f ≡ Unfit Wrong line)

-- THE AUDIT of an input: the report of its file, then the limit of work for that report's budget,
-- then whether it is right
abbrev pub IsAudit : Reads → PlannedCase → Result PlannedCase TopFault → Type 0
IsAudit reads c =
    Then (IsReportFile (reads ReportFile)) (λ r. Then (IsWithinWork r.budget c) (IsJudged r))
