-- What backtracking writes, period by period (this project's profile).
use Rattle.std.specs.Prelude.{◌≡◌, ℕ, ◌<◌, ◌≤◌, ℤ, pos, IsTrue, IsFalse, List, length, ◌⊎◌, Option}
use Rattle.std.specs.Prelude.{Some}
use Rattle.uc_model.specs.Data.{ThermalUnit, PriceLists, Schedule}
use Rattle.uc_model.specs.Schedules.{on_in, power_in, reserve_in}
use Rattle.spell_run.specs.Spells.{IsDispatch, IsFirstDispatch, IsLeastSpell, spell_cost}
use Rattle.unit_rows.specs.declared.table.Ended.{Ended}
use Rattle.unit_program.specs.Builds.{IsUpTo}
use Rattle.unit_rows.specs.Rows.{cost_at}
use Rattle.unit_program.specs.Ties.{IsFirstUpTo}

-- a and b are the same in period t
pub record IsSameIn (g : ThermalUnit) (a b : Schedule) (t : ℕ) : Type 0 where
  pub on : on_in g b t ≡ on_in g a t
  pub power : power_in b t ≡ power_in a t
  pub reserve : reserve_in b t ≡ reserve_in a t

-- in an off period nothing is given
abbrev pub IsZeroOff : ThermalUnit → Schedule → Type 0
IsZeroOff g s =
    (t : ℕ) → 1 ≤ t → IsFalse (on_in g s t) → (power_in s t ≡ pos 0) × (reserve_in s t ≡ pos 0)

-- b is a with a spell of least net cost in periods first to last, and the first of that cost
pub record IsWritten (g : ThermalUnit) (π : PriceLists) (periods first last : ℕ) (a b : Schedule) :
    Type 0 where
  pub on : (t : ℕ) → 1 ≤ t → first ≤ t → t ≤ last → IsTrue (on_in g b t)
  pub best : (net : ℤ) → IsLeastSpell g π periods first last net → IsDispatch g periods first last b
      × (spell_cost g π first last b ≡ net)
  pub tie : (net : ℤ) → IsLeastSpell g π periods first last net →
      IsFirstDispatch g π periods first last b net
  pub others : (t : ℕ) → (t < first) ⊎ (last < t) → IsSameIn g a b t

-- b is a with all that the table names up to last on period `last`, and the first of what costs as
-- much
pub record IsWrittenBack (g : ThermalUnit) (π : PriceLists) (rows : List (Option Ended)) (last : ℕ)
    (a b : Schedule) : Type 0 where
  pub up_to : (v : ℤ) → cost_at rows last ≡ Some v → IsUpTo g π (length π.energy) b last v
  pub first : (v : ℤ) → cost_at rows last ≡ Some v → IsFirstUpTo g π (length π.energy) last v b
  pub later : (t : ℕ) → last < t → IsSameIn g a b t
  pub zero_off : IsZeroOff g a → IsZeroOff g b
