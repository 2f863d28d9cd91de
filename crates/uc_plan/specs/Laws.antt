-- A file is one schedule of a case, or has one first fault.
use Rattle.std.specs.Prelude.{◌≡◌, ℕ, List, Result}
use Rattle.uc_model.specs.Data.{Market, Schedule}
use Rattle.uc_text.specs.Files.{FileFault}
use Rattle.uc_plan.specs.PlanFiles.{IsPlanOf}
use Rattle.uc_plan.specs.declared.fault.ShapeFault.{ShapeFault}

abbrev pub SomePlan : Type 0
SomePlan = (m : Market) (bytes : List ℕ)
    → (r : Result (List Schedule) (FileFault ShapeFault)) × IsPlanOf m bytes r

abbrev pub ScheduleFileHasOneValueOrOneFault : Type 0
ScheduleFileHasOneValueOrOneFault = (m : Market) (bytes : List ℕ) (r s : Result (List Schedule) (FileFault ShapeFault))
    → IsPlanOf m bytes r → IsPlanOf m bytes s → r ≡ s
