-- The least costs by the last on period, what a spell begins with after one of them, and the least
-- of all (this project's profile). ends l is the least cost of all up to period l, where the unit is
-- on in l (or l is 0) and, before the last period of the horizon, off after it; none where nothing
-- ends so.
use Rattle.std.specs.Prelude.{◌≡◌, ℕ, suc, ◌≤◌, ℤ, pos, ◌+ℤ◌, ◌≤ℤ◌, Option, Some, ◌⊎◌}
use Rattle.uc_model.specs.Data.{ThermalUnit}
use Rattle.unit_rows.specs.Spells.{IsOffRun, IsGap, start_cost_after}

-- there is a value, at most v
abbrev pub HasAtMost : Option ℤ → ℤ → Type 0
HasAtMost o v = (u : ℤ) × (o ≡ Some u) × (u ≤ℤ v)

-- a spell may begin with period f after last, where all before it and its start cost e
pub record IsStarted (g : ThermalUnit) (ends : ℕ → Option ℤ) (f last : ℕ) (e : ℤ) : Type 0 where
  pub before : ℕ
  pub first : f ≡ suc before
  pub value : ℤ
  pub ended : ends last ≡ Some value
  pub gap : IsGap g last before
  pub cost : e ≡ value +ℤ start_cost_after g last before

-- the same, or the spell goes on from before the horizon, which costs nothing
abbrev pub IsEntryAfter : ThermalUnit → (ℕ → Option ℤ) → ℕ → ℕ → ℤ → Type 0
IsEntryAfter g ends f last e = ((f ≡ 0) × (e ≡ pos 0)) ⊎ IsStarted g ends f last e

abbrev pub IsEntry : ThermalUnit → (ℕ → Option ℤ) → ℕ → ℤ → Type 0
IsEntry g ends f e = (last : ℕ) × IsEntryAfter g ends f last e

-- e is the least of them, and of those that cost e the one after `last` has the earliest on period
-- before it
pub record IsLeastEntry (g : ThermalUnit) (ends : ℕ → Option ℤ) (f last : ℕ) (e : ℤ) : Type 0 where
  pub entry : IsEntryAfter g ends f last e
  pub least : (d : ℤ) → IsEntry g ends f d → e ≤ℤ d
  pub earliest : (k : ℕ) → IsEntryAfter g ends f k e → last ≤ k

-- v is the least cost of all, at a last on period l after which the unit may be off to the end
pub record IsLeastEnd (g : ThermalUnit) (periods : ℕ) (ends : ℕ →
    Option ℤ) (l : ℕ) (v : ℤ) : Type 0 where
  pub ended : ends l ≡ Some v
  pub off : IsOffRun g l periods
  pub least : (k : ℕ) (u : ℤ) → ends k ≡ Some u → IsOffRun g k periods → v ≤ℤ u
