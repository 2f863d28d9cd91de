-- The least costs of the first periods of a spell, by the power at their end (Bellman's principle
-- on the spell's periods).
use Rattle.std.specs.Prelude.{◌≡◌, ℕ, suc, ℤ, pos, ◌≤ℤ◌, Some, length}
use Rattle.slope_list.specs.Table.{Table, value_of}
use Rattle.uc_model.specs.Data.{ThermalUnit, PriceLists, Schedule}
use Rattle.uc_model.specs.Limits.{IsOutput}
use Rattle.uc_model.specs.Schedules.{reserve_in}
use Rattle.plain_lists.specs.Sums.{int_at}
use Rattle.spell_run.specs.Spells.{spell_cost, IsSpellWithin}
use Rattle.spell_run.specs.Steps.{level, IsRun}

-- some run of periods first to t ends at power x and costs v; where reserve earns nothing in its
-- last period it has none
pub record IsReached (g : ThermalUnit) (π : PriceLists) (first t : ℕ) (x v : ℤ) : Type 0 where
  pub run : Schedule
  pub power_length : length run.power ≡ length π.energy
  pub reserve_length : length run.reserve ≡ length π.energy
  pub keeps : IsRun g first t run
  pub ends : level g first run t ≡ x
  pub cost : spell_cost g π first t run ≡ v
  pub idle : (k : ℕ) → t ≡ suc k → int_at π.reserve k ≡ pos 0 → reserve_in run (suc k) ≡ pos 0

-- f has at each power the least cost of the runs of periods first to t that end there
pub record IsFrontier (g : ThermalUnit) (π : PriceLists) (first t : ℕ) (f : Table) : Type 0 where
  pub sound : (x v : ℤ) → value_of f x ≡ Some v → IsReached g π first t x v
  pub complete : (d : Schedule) → IsRun g first t d → (v : ℤ)
      × (value_of f (level g first d t) ≡ Some v) × (v ≤ℤ spell_cost g π first t d)
  pub powers : (x v : ℤ) → value_of f x ≡ Some v → IsOutput x
  pub values : (x v : ℤ) → value_of f x ≡ Some v → IsSpellWithin first t v
