-- Spells that go forward together, period by period: each first period has a running spell, the least
-- costs of its runs by the power at their end (Bellman's principle), until another running spell stands
-- for all that it may become (dominance between the labels of a shortest path; this project's
-- profile).
use Rattle.std.specs.Prelude.{◌≡◌, ℕ, suc, ◌+◌, ◌-◌, ◌*◌, ◌<◌, ◌≤◌, ℤ, pos, ◌+ℤ◌, ◌≤ℤ◌, ◌⊎◌, IsTrue}
use Rattle.std.specs.Prelude.{IsFalse, Option, Some, None}
use Rattle.slope_list.specs.Table.{Table, value_of, IsEmpty}
use Rattle.uc_model.specs.declared.units.Mark.TheVariants.{MustOff}
use Rattle.uc_model.specs.Data.{ThermalUnit, PriceLists, Schedule}
use Rattle.uc_model.specs.Schedules.{mark_in}
use Rattle.slope_list.specs.declared.slopes.Lowest.{Lowest}
use Rattle.spell_run.specs.declared.notes.Passed.{Passed}
use Rattle.spell_run.specs.Frontier.{IsFrontier}
use Rattle.spell_run.specs.Notes.{IsOnNoted, IsEndNoted, IsSpellNoted}
use Rattle.spell_run.specs.Spells.{spell_cost, IsDispatch, IsLeastSpell}
use Rattle.spell_run.specs.Steps.{level, IsRun}
use Rattle.unit_rows.specs.Rows.{IsWithinTimes}
use Rattle.unit_rows.specs.Spells.{IsSpell, on_time}
use Rattle.unit_rows.specs.Ends.{HasAtMost, IsEntry, IsLeastEntry}
use Rattle.unit_table.specs.Tables.{IsFrom}

-- what a running spell has: the on period before its first one, the cost of its entry, and a function of
-- the power
pub record Going : Type 0 where
  pub before : ℕ
  pub cost : ℤ
  pub function : Table

-- by place, of what a spell that begins with `first` left from its first period on
abbrev pub since : ℕ → (ℕ → Passed) → ℕ → Passed
since first left k = left (k - (first - 1))

-- a spell that begins with `first` may be on up to period t
pub record MayBeOn (g : ThermalUnit) (first t : ℕ) : Type 0 where
  pub goes_on : first ≡ 0 → IsTrue g.on0
  pub marks : (k : ℕ) → 1 ≤ k → first ≤ k → k ≤ t → mark_in g.window k ≡ MustOff → ⊥

-- where some run to period t is left, each step up to there is noted
abbrev pub AreNoted : ThermalUnit → PriceLists → ℕ → ℕ → Table → (ℕ → Passed) → Type 0
AreNoted g π first t f left =
    (x v : ℤ) → value_of f x ≡ Some v → (k : ℕ) → first ≤ suc k → k < t →
    IsOnNoted g π first k (since first left k).note

-- so it is for each running spell that is on
abbrev pub AreAllNoted : ThermalUnit → PriceLists → ℕ → (ℕ → Option Going) → (ℕ → ℕ → Passed) →
    Type 0
AreAllNoted g π t live left =
    (first : ℕ) (r : Going) → live first ≡ Some r → AreNoted g π first t r.function (left first)

-- the running spell that begins with `first` has the least entry, and its function is the frontier of the
-- runs up to period t
pub record IsRunningSpell (g : ThermalUnit) (π : PriceLists) (ends : ℕ →
    Option ℤ) (t first : ℕ) (r : Going) : Type 0 where
  pub entry : IsLeastEntry g ends first r.before r.cost
  pub frontier : IsFrontier g π first t r.function
  pub may : MayBeOn g first t
  pub order : first ≤ suc t
  pub within : IsWithinTimes (2 * first + 1) r.cost

-- a running spell was just begun after an entry
pub record IsBegun (g : ThermalUnit) (first last : ℕ) (e : ℤ) (r : Going) : Type 0 where
  pub before : r.before ≡ last
  pub cost : r.cost ≡ e
  pub frontier : (π : PriceLists) → IsFrontier g π first (first - 1) r.function

-- a running spell stands for the run d that begins with `first`, entered at cost e: it ends where d does,
-- costs no more, and less if it begins earlier, and may stop after any later period after which d
-- may
pub record HasStandIn (g : ThermalUnit) (π : PriceLists) (live : ℕ →
    Option Going) (t first : ℕ) (e : ℤ) (d : Schedule) : Type 0 where
  pub other : ℕ
  pub going : Going
  pub value : ℤ
  pub on : live other ≡ Some going
  pub there : value_of going.function (level g first d t) ≡ Some value
  pub cheap : (going.cost +ℤ value) ≤ℤ (e +ℤ spell_cost g π first t d)
  pub later : (first ≤ other)
      ⊎ (((going.cost +ℤ value) +ℤ pos 1) ≤ℤ (e +ℤ spell_cost g π first t d))
  pub long : (l : ℕ) → t < l → g.min_up ≤ on_time g first l → g.min_up ≤ on_time g other l
  pub begun : (other ≤ t) ⊎ (other ≡ first)

-- the running spells at the end of period t: each run that begins before period n, and costs no more than
-- the limit there, has one that stands for it
pub record AreRunningSpells (g : ThermalUnit) (π : PriceLists) (limits : ℕ → ℤ) (ends : ℕ →
    Option ℤ) (live : ℕ → Option Going) (t n : ℕ) : Type 0 where
  pub right : (first : ℕ) (r : Going) → live first ≡ Some r → (first < n)
      × IsRunningSpell g π ends t first r
  pub all : (first : ℕ) (e : ℤ) (d : Schedule) → first < n → MayBeOn g first t →
      IsEntry g ends first e → IsRun g first t d → (e +ℤ spell_cost g π first t d) ≤ℤ limits t →
      HasStandIn g π live t first e d

-- what becomes of a running spell in period suc t: its frontier is a period further, or it is gone, where
-- no run is left
pub record IsGoneOn (g : ThermalUnit) (π : PriceLists) (t first : ℕ) (r : Going)
    (next : Option Going) : Type 0 where
  pub function : Table
  pub frontier : IsFrontier g π first (suc t) function
  pub next_is : (next ≡ Some (record { before = r.before; cost = r.cost; function = function }))
      ⊎ ((next ≡ None) × IsEmpty function)

-- a spell ends with period suc k, as is noted
abbrev pub IsEndLeft : ThermalUnit → PriceLists → ℕ → ℕ → Passed → Type 0
IsEndLeft g π first k p = (e : Lowest) × (p.end ≡ Some e) × IsEndNoted g π first k p.note e

-- each row up to period t names a spell that left what backtracking needs
abbrev pub CanBacktrack : ThermalUnit → PriceLists → ℕ → (ℕ → Option ℤ) → (ℕ → ℕ) → (ℕ → ℕ → Passed) →
    Type 0
CanBacktrack g π t ends firsts left =
    (l : ℕ) (v : ℤ) → 1 ≤ l → l ≤ t → ends l ≡ Some v →
    (firsts l ≤ l) × IsSpellNoted g π (firsts l) l (since (firsts l) (left (firsts l)))

-- the rows up to period t are those of the table, as far as they cost no more than the limits, and
-- there is none after it
pub record IsTableTo (g : ThermalUnit) (π : PriceLists) (limits : ℕ → ℤ) (periods t : ℕ) (ends : ℕ →
    Option ℤ) (firsts lasts : ℕ → ℕ) : Type 0 where
  pub idle : IsFalse g.on0 → HasAtMost (ends 0) (pos 0)
  pub spell : (f l : ℕ) (e : ℤ) (d : Schedule) → l ≤ t → IsSpell g periods f l →
      IsEntry g ends f e → IsDispatch g periods f l d →
      (e +ℤ spell_cost g π f l d) ≤ℤ limits l → HasAtMost (ends l) (e +ℤ spell_cost g π f l d)
  pub sound : (l : ℕ) (v : ℤ) → l ≤ t → ends l ≡ Some v → v ≤ℤ limits l →
      IsFrom g π periods (suc periods) ends firsts lasts l v
  pub none : (l : ℕ) → t < l → ends l ≡ None

-- row l has the least cost of the running spells that begin before period n and may stop after period l;
-- of equal ones that of the latest
pub record IsRowOf (g : ThermalUnit) (π : PriceLists) (periods : ℕ) (live : ℕ →
    Option Going) (n l : ℕ) (end : Option ℤ) (first before : ℕ) : Type 0 where
  pub most : (f : ℕ) (r : Going) (d : Schedule) → f < n → live f ≡ Some r → IsSpell g periods f l →
      IsDispatch g periods f l d → HasAtMost end (r.cost +ℤ spell_cost g π f l d)
  pub latest : (f : ℕ) (r : Going) (d : Schedule) → f < n → live f ≡ Some r →
      IsSpell g periods f l → IsDispatch g periods f l d →
      end ≡ Some (r.cost +ℤ spell_cost g π f l d) → f ≤ first
  pub sound : (v : ℤ) → end ≡ Some v →
      (r : Going) × (live first ≡ Some r) × (first < n) × (r.before ≡ before)
      × IsSpell g periods first l
      × ((c : ℤ) × IsLeastSpell g π periods first l c × (v ≡ r.cost +ℤ c))
