-- What limits say of rows, of the amount that they are for, and of starts; and what a stop before
-- period 1 costs (this project's profile). Each law is the clause of a public function.
use Rattle.std.specs.Prelude.{◌≡◌, ℕ, ◌≤◌, ℤ, pos, ◌+ℤ◌, ◌≤ℤ◌, ◌⊎◌, length, Option, Some, None}
use Rattle.uc_model.specs.BoundLaws.{StartCostsAreWithin}
use Rattle.uc_model.specs.Data.{ThermalUnit, PriceLists, Schedule}
use Rattle.uc_model.specs.Limits.{IsThermalUnit}
use Rattle.spell_run.specs.Spells.{IsDispatch, IsSpellAnswer, spell_cost}
use Rattle.unit_rows.specs.Limits.{AreLimits, cap_of_row}
use Rattle.unit_rows.specs.Spells.{IsSpell, StopsAtOnce}
use Rattle.unit_rows.specs.Ends.{IsStarted}

-- a row within its limit is kept as it is, and the others read as the first number above it
abbrev pub CappedRowsAreRows : Type 0
CappedRowsAreRows =
    (limit : ℤ) (o : Option ℤ) (v : ℤ) →
    (o ≡ Some v → v ≤ℤ limit → cap_of_row limit o ≡ Some v)
    × (cap_of_row limit o ≡ Some v → ((o ≡ Some v) × (v ≤ℤ limit)) ⊎ (limit +ℤ pos 1 ≡ v))

-- no limit is below the amount
abbrev pub LimitsAreAboveTheAmount : Type 0
LimitsAreAboveTheAmount =
    (g : ThermalUnit) (π : PriceLists) (most : ℤ) (limits : ℕ → ℤ) →
    AreLimits g π most limits → (l : ℕ) → l ≤ length π.energy → most ≤ℤ limits l

-- a spell that is within its limit starts after an end that is within its own
abbrev pub StartsAreWithinLimits : Type 0
StartsAreWithinLimits =
    (g : ThermalUnit) (π : PriceLists) (most : ℤ) (limits : ℕ → ℤ) →
    AreLimits g π most limits → IsThermalUnit g → StartCostsAreWithin →
    (f last l : ℕ) (e : ℤ) (d : Schedule) (ends : ℕ → Option ℤ) (st : IsStarted g ends f last e) →
    IsSpell g (length π.energy) f l → IsDispatch g (length π.energy) f l d →
    (e +ℤ spell_cost g π f l d) ≤ℤ limits l → st.value ≤ℤ limits last

-- a spell that goes on from before the horizon and ends there costs nothing where the unit may stop
-- at once, and isn't there otherwise
abbrev pub StopsAtOnceCostNothing : Type 0
StopsAtOnceCostNothing =
    (g : ThermalUnit) (π : PriceLists) (periods : ℕ) → 1 ≤ periods →
    (StopsAtOnce g → IsSpellAnswer g π periods 0 0 (Some (pos 0)))
    × ((StopsAtOnce g → ⊥) → IsSpellAnswer g π periods 0 0 None)
