-- The faults of a schedule file.
use Rattle.std.specs.Prelude.{ℕ}
use Rattle.uc_plan.specs.declared.fault.ShapeCode.{ShapeCode}
use Rattle.uc_plan.specs.declared.fault.ShapeCode.TheVariants.{UnknownUnit, MissingUnit}
use Rattle.uc_plan.specs.declared.fault.ShapeCode.TheVariants.{PlanShape, PlanNumber}
use Rattle.uc_plan.specs.declared.fault.ShapeSite.{ShapeSite}
use Rattle.uc_plan.specs.declared.fault.ShapeFault.{ShapeFault}

-- the number under which a fault is printed (this project's profile)
abbrev pub shape_number : ShapeCode → ℕ
shape_number UnknownUnit = 40
shape_number MissingUnit = 41
shape_number PlanShape = 42
shape_number PlanNumber = 43

abbrev pub fault : ShapeSite → ℕ → ShapeCode → ShapeFault
fault site item code = record { code = code; kind = site.kind; unit = site.unit; item = item }
