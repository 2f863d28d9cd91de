-- What a schedule file is for a case, and what its reader answers.
use Rattle.std.specs.Prelude.{ℕ, List, Result, Ok, Err}
use Rattle.uc_model.specs.Data.{Market, Schedule}
use Rattle.uc_text.specs.Files.{FileFault, text, value, IsReading}
use Rattle.uc_plan.specs.Plans.{plan_of}
use Rattle.uc_plan.specs.declared.fault.PlanFault.{PlanFault}
use Rattle.uc_plan.specs.declared.fault.PlanFault.TheVariants as faults
use Rattle.uc_plan.specs.declared.fault.ShapeFault.{ShapeFault}

-- the bytes of a schedule file are these schedules of the case's units, or have this fault first
abbrev pub IsPlanOf : Market → List ℕ → Result (List Schedule) (FileFault ShapeFault) → Type 0
IsPlanOf m = IsReading (plan_of m)

-- P of the answer; nothing where memory ran out
abbrev pub IfRead : {X A : Type 0} → (X → A) → Result X PlanFault
    → (Result A (FileFault ShapeFault) → Type 0) → Type 0
IfRead view (Ok x) P = P (Ok (view x))
IfRead view (Err (faults.Text f)) P = P (Err (text f))
IfRead view (Err (faults.Shape f)) P = P (Err (value f))
IfRead view (Err faults.Memory) P = Unit {0}
