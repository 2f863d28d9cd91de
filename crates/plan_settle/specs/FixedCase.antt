-- A case with the commitments of a schedule held (this project's profile).
use Rattle.std.specs.Prelude.{Bool, true, false, List, map}
use Rattle.uc_model.specs.declared.units.Mark.{Mark}
use Rattle.uc_model.specs.declared.units.Mark.TheVariants.{MustOff, MustOn}
use Rattle.uc_model.specs.Data.{ThermalUnit, NamedThermalUnit, Schedule, Market}
use Rattle.plain_lists.specs.Sums.{zip_with}

-- on where the schedule is on, and off elsewhere
abbrev pub held_mark : Bool → Mark
held_mark true = MustOn
held_mark false = MustOff

-- a thermal unit that may only have the schedule's commitment; all else stays
abbrev pub held_unit : ThermalUnit → Schedule → ThermalUnit
held_unit g s = record g { window = map held_mark s.on }

abbrev pub held_named : NamedThermalUnit → Schedule → NamedThermalUnit
held_named n s = record n { unit = held_unit n.unit s }

-- the case with each thermal unit held to its schedule in the plan
abbrev pub fixed_market : Market → List Schedule → Market
fixed_market m plan = record m { thermal = zip_with held_named m.thermal plan }
