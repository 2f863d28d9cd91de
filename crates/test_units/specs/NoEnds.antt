-- When a unit has no feasible schedule, by its table.
use Rattle.std.specs.Prelude.{◌≡◌, ℕ, suc, ℤ, pos, ◌≤ℤ◌, Option, Some, length}
use Rattle.uc_model.specs.Data.{ThermalUnit, PriceLists, Schedule}
use Rattle.uc_model.specs.Schedules.{IsThermalFeasible}
use Rattle.unit_rows.specs.Spells.{IsOffRun}
use Rattle.unit_table.specs.Tables.{IsComplete}

-- a complete table has no last on period after which the unit may be off to the end
abbrev pub NoEndIsNoSchedule : Type 0
NoEndIsNoSchedule =
    (g : ThermalUnit) (π : PriceLists) (periods : ℕ) (ends : ℕ → Option ℤ) →
    periods ≡ length π.energy → pos 0 ≤ℤ g.ramp_up → pos 0 ≤ℤ g.ramp_down →
    IsComplete g π periods (suc periods) ends →
    ((l : ℕ) (v : ℤ) → ends l ≡ Some v → IsOffRun g l periods → ⊥) →
    (s : Schedule) → IsThermalFeasible g periods s → ⊥
