-- The answer of the reader is the only one.
use Rattle.uc_plan.proofs.Common.{◌≡◌, ℕ, List, Result, Ok, Err, Market, Schedule, schedules_of, FileFault, text, value}
use Rattle.uc_plan.proofs.Common.{ShapeFault}
use Rattle.uc_model.specs.declared.cases.Plan.{Plan}
use Rattle.uc_plan.specs.Laws.{ScheduleFileHasOneValueOrOneFault}
use Rattle.uc_plan.specs.PlanFiles.{IsPlanOf, IfRead}
use Rattle.uc_plan.specs.declared.fault.PlanFault.{PlanFault}
use Rattle.uc_plan.specs.declared.fault.PlanFault.TheVariants as faults

pub is_only : ScheduleFileHasOneValueOrOneFault → (m : Market) (bytes : List ℕ) (a : Result Plan PlanFault) →
    IfRead schedules_of a (λ r. IsPlanOf m bytes r) → (r : Result (List Schedule) (FileFault ShapeFault)) →
    IsPlanOf m bytes r → IfRead schedules_of a (λ s. s ≡ r)
is_only law m bytes (Ok p) answer r is = law m bytes (Ok (schedules_of p)) r answer is
is_only law m bytes (Err (faults.Text f)) answer r is = law m bytes (Err (text f)) r answer is
is_only law m bytes (Err (faults.Shape f)) answer r is = law m bytes (Err (value f)) r answer is
is_only law m bytes (Err faults.Memory) answer r is = tt
