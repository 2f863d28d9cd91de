-- The table filled by first periods, and the lists of costs that it is filled from (this project's
-- profile).
use Rattle.std.specs.Prelude.{◌≡◌, ◌⊎◌, ℕ, zero, suc, ◌<◌, ◌≤◌, ℤ, ◌+ℤ◌, List, length, Option, Some}
use Rattle.std.specs.Prelude.{None}
use Rattle.uc_model.specs.declared.units.Mark.TheVariants.{MustOff}
use Rattle.uc_model.specs.Data.{ThermalUnit, PriceLists}
use Rattle.uc_model.specs.Schedules.{mark_in}
use Rattle.spell_run.specs.Spells.{IsSpellAnswer}
use Rattle.test_units.specs.Entries.{entry_of}
use Rattle.unit_rows.specs.declared.table.Ended.{Ended}
use Rattle.unit_rows.specs.Rows.{cost_at, first_at, before_at, AreWithin}
use Rattle.unit_rows.specs.Spells.{IsSpell}
use Rattle.unit_rows.specs.Ends.{HasAtMost}
use Rattle.unit_table.specs.Tables.{IsTable}

-- the least net cost of a spell with that last period; none ends before period 1
abbrev pub net_at : List (Option ℤ) → ℕ → Option ℤ
net_at costs zero = None
net_at costs (suc k) = entry_of costs (suc k)

-- what the spells that begin with f, entered at cost e after last, change; nets l is the least net
-- cost of the spell to l
pub record IsUpdate (g : ThermalUnit) (periods f last : ℕ) (e : ℤ) (nets old new : ℕ →
    Option ℤ) (firsts firsts' lasts lasts' : ℕ → ℕ) : Type 0 where
  pub same : (l : ℕ) → l < f → new l ≡ old l
  pub keeps : (l : ℕ) (v : ℤ) → old l ≡ Some v → HasAtMost (new l) v
  pub adds : (l : ℕ) (c : ℤ) → IsSpell g periods f l → nets l ≡ Some c → HasAtMost (new l) (e +ℤ c)
  -- where several cost the same, the spell that begins with f is named
  pub takes : (l : ℕ) (c : ℤ) → IsSpell g periods f l → nets l ≡ Some c → new l ≡ Some (e +ℤ c) →
      firsts' l ≡ f
  pub sound : (l : ℕ) (v : ℤ) → new l ≡ Some v →
      ((old l ≡ Some v) × (firsts' l ≡ firsts l) × (lasts' l ≡ lasts l))
      ⊎ ((firsts' l ≡ f) × (lasts' l ≡ last) × IsSpell g periods f l
      × ((c : ℤ) × (nets l ≡ Some c) × (v ≡ e +ℤ c)))

-- the table has what begins before period n, and its costs are within bounds
pub record IsFilled (g : ThermalUnit) (π : PriceLists) (n : ℕ) (rows : List (Option Ended)) : Type
    0 where
  pub table : IsTable g π (length π.energy) n (cost_at rows) (first_at rows) (before_at rows)
  pub within : AreWithin rows

-- the spells that begin with period `first`, entered at cost e after `before`, are put into the
-- table; but not one that ends before period 1
pub record IsAdded (g : ThermalUnit) (π : PriceLists) (first before : ℕ) (e : ℤ)
    (old new : List (Option Ended)) : Type 0 where
  pub nets : ℕ → Option ℤ
  pub none : nets 0 ≡ None
  pub right : (l : ℕ) → 1 ≤ l → IsSpell g (length π.energy) first l →
      IsSpellAnswer g π (length π.energy) first l (nets l)
  pub update : IsUpdate g (length π.energy) first before e nets (cost_at old) (cost_at new)
      (first_at old) (first_at new) (before_at old) (before_at new)
  pub within : AreWithin new

-- a spell from `first` on may last until then: no period of it is marked `MustOff`, and the next
-- one is, if there is one
pub record IsOpenUntil (g : ThermalUnit) (first until : ℕ) : Type 0 where
  pub end : until ≤ length g.window
  pub from : first ≤ suc until
  pub marks : (t : ℕ) → 1 ≤ t → first ≤ t → t ≤ until → mark_in g.window t ≡ MustOff → ⊥
  pub next : until < length g.window → mark_in g.window (suc until) ≡ MustOff
