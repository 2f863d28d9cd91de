-- Which spells are asked for, and what is kept of them (this project's profile).
use Rattle.std.specs.Prelude.{◌≡◌, ℕ, ◌+◌, ◌-◌, ◌*◌, ◌≤◌, ℤ, ◌+ℤ◌, ◌-ℤ◌, Bool, if◌then◌else◌}
use Rattle.std.specs.Prelude.{IsTrue, IsFalse, nat_lt, suc, length, List, slice_index_or, Option, None, MatchOption}
use Rattle.std.specs.Option.{IfSome}
use Rattle.slope_list.specs.Table.{Table, HasNone}
use Rattle.slope_list.specs.declared.step_terms.Step.{Step}
use Rattle.spell_run.specs.Spells.{HasNoDispatch, IsSpellAnswer, IsSpellWithin}
use Rattle.spell_run.specs.Steps.{IsKinked}
use Rattle.spell_run.specs.Entries.{IsOnFromTo}
use Rattle.spell_run.specs.Backtracking.{IsWayFrom}
use Rattle.uc_model.specs.Data.{PriceLists, Schedule, ThermalUnit}
use Rattle.test_units.specs.declared.best.Found.{Found}
use Rattle.test_units.specs.declared.spell.Spell.{Spell}

-- the first period of a spell as dispatches count it: 0 where it goes on from before the
-- horizon
abbrev pub spell_first : Bool → ℕ → ℕ
spell_first started first = if started then first else 0

-- the entry of the spells with that last period, which counts from 1
abbrev pub entry_of : List (Option ℤ) → ℕ → Option ℤ
entry_of entries last = slice_index_or entries (last - 1) None

-- with so many cells to give, a home that counts suffices for a call over so many periods and cost
-- points
abbrev pub cells_for : ℕ → ℕ → ℕ
cells_for periods points = (periods + 2) * (1 + periods * (2 * points + 3))

-- where a spell may begin: at a start, or in period 1 for a unit that is on before the horizon
pub record IsSpellStart (g : ThermalUnit) (periods first : ℕ) (started : Bool) : Type 0 where
  pub from_one : 1 ≤ first
  pub within : first ≤ periods
  pub starts : IsTrue started → first ≡ 1 → IsFalse g.on0
  pub goes_on : IsFalse started → (first ≡ 1) × IsTrue g.on0

-- the least net cost of the spells from a first to a last period, within bounds
abbrev pub IsSpellCost : ThermalUnit → PriceLists → (first last : ℕ) → Option ℤ → Type 0
IsSpellCost g π first last cost =
    IsSpellAnswer g π (length π.energy) first last cost × IfSome cost (IsSpellWithin first last)

-- a spell of the horizon; a stop follows it where it ends before the horizon does
pub record IsSpellOf (g : ThermalUnit) (periods : ℕ) (s : Spell) : Type 0 where
  pub start : IsSpellStart g periods s.first s.started
  pub order : s.first ≤ s.last
  pub end : s.last ≤ periods
  pub stops : s.stops ≡ nat_lt s.last periods

-- the cheapest way from a place to the end of a spell is written, on in each period and at a cost
-- within bounds; or there is none, and nothing is written
abbrev pub HasWay : ThermalUnit → PriceLists → Spell → (index : ℕ) → Table → (old new : Schedule) → Option Found →
    Type 0
HasWay g π s index f old new best =
    MatchOption best (HasNoDispatch g (length π.energy) (spell_first s.started s.first) s.last × (new ≡ old))
    (λ found. IsWayFrom g π (spell_first s.started s.first) index s.last f new found.power found.cost
    × IsSpellWithin (spell_first s.started s.first) s.last found.cost
    × IsOnFromTo (suc index) s.last new)

-- no power before a step leads to power x
pub record IsUnreached (s : Step) (f : Table) (x : ℤ) : Type 0 where
  pub kinked : Table
  pub is_kinked : IsKinked s f kinked
  pub none : HasNone (x -ℤ s.ramp_up) (x +ℤ s.ramp_down) kinked
