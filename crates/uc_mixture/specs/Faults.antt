-- The faults of a mixture file (this project's profile).
use Rattle.std.specs.Prelude.{ℕ, Result, Ok, Err}
use Rattle.uc_text.specs.declared.stop.Stop.{Stop}
use Rattle.uc_text.specs.declared.stop.Stop.TheVariants as stops
use Rattle.uc_model.specs.declared.kinds.Kind.TheVariants.{Case, Thermal}
use Rattle.uc_plan.specs.Shapes.{shape_number}
use Rattle.uc_plan.specs.declared.fault.ShapeSite.{ShapeSite}
use Rattle.uc_plan.specs.declared.fault.ShapeFault.{ShapeFault}
use Rattle.uc_mixture.specs.declared.fault.ShareCode.{ShareCode}
use Rattle.uc_mixture.specs.declared.fault.ShareCode.TheVariants.{Shape, Weight}
use Rattle.uc_mixture.specs.declared.fault.ShareFault.{ShareFault}
use Rattle.uc_mixture.specs.declared.fault.ShareSite.{ShareSite}

-- the number under which a fault is printed
abbrev pub code_number : ShareCode → ℕ
code_number (Shape code) = shape_number code
code_number Weight = 62

abbrev pub site_of_file : ShareSite
site_of_file = record { kind = Case; unit = 0; entry = 0 }

abbrev pub site_of_unit : ℕ → ShareSite
site_of_unit unit = record { kind = Thermal; unit = unit; entry = 0 }

abbrev pub entry_at : ShareSite → ℕ → ShareSite
entry_at at k = record at { entry = k }

abbrev pub shape_site_of : ShareSite → ShapeSite
shape_site_of at = record { kind = at.kind; unit = at.unit }

abbrev pub fault : ShareSite → ShareCode → ShareFault
fault at code =
    record { code = code; kind = at.kind; unit = at.unit; entry = at.entry; item = 0 }

-- ---- faults of schedules

-- a fault of a schedule, as one of an entry's
abbrev pub fault_within : ℕ → ShapeFault → ShareFault
fault_within entry f =
    record { code = Shape f.code; kind = f.kind; unit = f.unit; entry = entry; item = f.item }

-- what tests of a schedule give, within an entry
abbrev pub within : {A : Type 0} → ℕ → Result A ShapeFault → Result A ShareFault
within entry (Ok x) = Ok x
within entry (Err f) = Err (fault_within entry f)

abbrev pub stop_within : ℕ → Stop ShapeFault → Stop ShareFault
stop_within entry stops.Memory = stops.Memory
stop_within entry (stops.Fault f) = stops.Fault (fault_within entry f)
