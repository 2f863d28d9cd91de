-- How a list of running spells is read: the running spell that begins with a period is at that place (this
-- project's profile).
use Rattle.std.specs.Prelude.{◌≡◌, ℕ, suc, ◌+◌, ◌-◌, ◌*◌, ◌≤◌, ℤ, pos, ◌+ℤ◌, ◌≤ℤ◌, if◌then◌else◌}
use Rattle.std.specs.Prelude.{IsTrue, List, [], length, slice_get, Option, Some, None}
use Rattle.plain_lists.specs.Reserved.{Reserved}
use Rattle.slope_list.specs.Table.{Table, value_of}
use Rattle.slope_list.specs.Slopes.{shown, count_of, room_of}
use Rattle.uc_model.specs.Data.{ThermalUnit, PriceLists}
use Rattle.spell_run.specs.declared.notes.Logged.{Logged}
use Rattle.spell_run.specs.declared.notes.Passed.{Passed}
use Rattle.spell_run.specs.Logs.{left_by, IsTrace}
use Rattle.spell_run.specs.Notes.{passed_at}
use Rattle.unit_table.specs.declared.running_spell.RunningSpell.{RunningSpell}
use Rattle.unit_rows.specs.declared.table.Ended.{Ended}
use Rattle.unit_rows.specs.Rows.{cost_at, first_at, before_at, IsWithinTimes, AreWithin}
use Rattle.unit_table.specs.RunningSpells.{Going, IsTableTo, AreRunningSpells}

abbrev pub state_of : RunningSpell → Going
state_of r = record {
  before = r.before;
  cost = r.cost;
  function = shown r.running;
}

abbrev pub going_of : Option RunningSpell → Option Going
going_of None = None
going_of (Some r) = if r.is_on then Some (state_of r) else None

-- the running spell that begins with `first`, if it is on
abbrev pub live_at : List RunningSpell → ℕ → Option Going
live_at spells first = going_of (slice_get spells first)

abbrev pub left_of : List Logged → Option RunningSpell → ℕ → Passed
left_of log None k = passed_at [] k
left_of log (Some r) k = left_by log r.trace k

-- what the running spell that begins with `first` left of each period from there on, whether it is on or
-- not
abbrev pub left_at : List Logged → List RunningSpell → ℕ → ℕ → Passed
left_at log spells first = left_of log (slice_get spells first)

-- the log has what each running spell left
abbrev pub AreTraces : List Logged → List RunningSpell → Type 0
AreTraces log spells =
    (first : ℕ) (r : RunningSpell) → slice_get spells first ≡ Some r → IsTrace log r.trace

-- a running spell has room for all periods, and for those after period t where it is on; each asks for as
-- many pieces as `charge`. Where it is on, it left what it did of each period up to t, and nothing
-- where it can't have begun
pub record IsRoomy (periods t charge first : ℕ) (r : RunningSpell) : Type 0 where
  pub whole : periods * charge ≤ room_of r.running
  pub rest : IsTrue r.is_on → count_of r.running + (periods - t) * charge ≤ room_of r.running
  pub count : IsTrue r.is_on → r.trace.count ≡ t - (first - 1)
  pub none : t ≤ first - 1 → r.trace.count ≡ 0

abbrev pub AreRoomy : ℕ → ℕ → ℕ → List RunningSpell → Type 0
AreRoomy periods t charge spells =
    (first : ℕ) (r : RunningSpell) → slice_get spells first ≡ Some r →
    IsRoomy periods t charge first r

-- its cost and its values are far within the limits
pub record IsSmallGoing (r : Going) : Type 0 where
  pub cost : IsWithinTimes 400 r.cost
  pub values : (x v : ℤ) → value_of r.function x ≡ Some v → IsWithinTimes 400 v

abbrev pub AreSmall : (ℕ → Option Going) → Type 0
AreSmall live = (first : ℕ) (r : Going) → live first ≡ Some r → IsSmallGoing r

-- it is at a power for less than a cost
abbrev pub IsUnder : ℤ → ℤ → Going → Type 0
IsUnder power cost r =
    (v : ℤ) × (value_of r.function power ≡ Some v) × (((r.cost +ℤ v) +ℤ pos 1) ≤ℤ cost)

-- it is above a limit at each power
abbrev pub IsBeyond : ℤ → ℤ → Table → Type 0
IsBeyond limit cost f = (x v : ℤ) → value_of f x ≡ Some v → (limit +ℤ pos 1) ≤ℤ (cost +ℤ v)

-- f, after cost e, is nowhere above f', after cost e', and has all its powers
abbrev pub IsBelow : Table → ℤ → Table → ℤ → Type 0
IsBelow f e f' e' =
    (x v : ℤ) → value_of f' x ≡ Some v → (u : ℤ) × (value_of f x ≡ Some u) × ((e +ℤ u) ≤ℤ (e' +ℤ v))

-- each running spell has room for just so many pieces
abbrev pub HaveRoom : ℕ → List RunningSpell → Type 0
HaveRoom room spells =
    (first : ℕ) (r : RunningSpell) → slice_get spells first ≡ Some r → room ≡ room_of r.running

-- a log has memory for all that running spells may leave of so many periods: of each as many entries as
-- running spells may have begun by then
abbrev pub HasRoomFor : ℕ → Reserved Logged → Type 0
HasRoomFor periods log = periods * (periods + 3) ≤ 2 * (length log.items + log.spare)

-- the rows up to period t are those of the table, and each run has a running spell that stands for it
pub record IsFilledTo (g : ThermalUnit) (π : PriceLists) (limits : ℕ →
    ℤ) (t : ℕ) (rows : List (Option Ended)) (live : ℕ → Option Going) : Type 0 where
  pub table : IsTableTo g π limits (length π.energy) t (cost_at rows) (first_at rows)
      (before_at rows)
  pub spells : AreRunningSpells g π limits (cost_at rows) live t (suc t)
  pub within : AreWithin rows
