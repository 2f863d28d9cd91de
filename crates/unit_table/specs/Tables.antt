-- The table of the program over spells, and what it keeps (this project's profile): the least costs
-- by the last on period, and the spells that they are of.
use Rattle.std.specs.Prelude.{◌≡◌, ℕ, ◌<◌, ◌≤◌, ℤ, pos, ◌+ℤ◌, IsFalse, Option, Some, ◌⊎◌}
use Rattle.uc_model.specs.Data.{ThermalUnit, PriceLists, Schedule}
use Rattle.spell_run.specs.Spells.{IsDispatch, IsLeastSpell, spell_cost}
use Rattle.unit_rows.specs.Ends.{HasAtMost, IsEntryAfter, IsEntry, IsLeastEntry}
use Rattle.unit_rows.specs.Spells.{IsSpell}

-- a spell from f to l after last, where all up to it costs v: the least entry and the spell's least
-- net cost
pub record IsEnded (g : ThermalUnit) (π : PriceLists) (periods : ℕ) (ends : ℕ →
    Option ℤ) (f last l : ℕ) (v : ℤ) : Type 0 where
  pub entry_cost : ℤ
  pub entry : IsLeastEntry g ends f last entry_cost
  pub spell : IsSpell g periods f l
  pub net : ℤ
  pub least : IsLeastSpell g π periods f l net
  pub cost : v ≡ entry_cost +ℤ net

-- the spells that begin before period n are in the table
pub record IsComplete (g : ThermalUnit) (π : PriceLists) (periods n : ℕ) (ends : ℕ →
    Option ℤ) : Type 0 where
  pub idle : IsFalse g.on0 → HasAtMost (ends 0) (pos 0)
  pub spell : (f l : ℕ) (e : ℤ) (d : Schedule) → f < n → IsSpell g periods f l →
      IsEntry g ends f e → IsDispatch g periods f l d →
      HasAtMost (ends l) (e +ℤ spell_cost g π f l d)

-- of the spells to l that begin before period n, none that costs v with all before it begins later
-- than with `first`
abbrev pub IsLatest : ThermalUnit → PriceLists → ℕ → ℕ → (ℕ → Option ℤ) → ℕ → ℕ → ℤ → Type 0
IsLatest g π periods n ends first l v =
    (f last : ℕ) (e : ℤ) (d : Schedule) → f < n → IsSpell g periods f l →
    IsEntryAfter g ends f last e → IsDispatch g periods f l d
    → (e +ℤ spell_cost g π f l d) ≡ v → f ≤ first

-- each value of the table is that of a unit that has been off since before the horizon, or of the
-- spell that the choices name: it begins with `firsts l`, after `lasts l`, and of several of that
-- cost it begins latest
abbrev pub IsFrom : ThermalUnit → PriceLists → ℕ → ℕ → (ℕ → Option ℤ) → (ℕ → ℕ) → (ℕ → ℕ) → ℕ → ℤ →
    Type 0
IsFrom g π periods n ends firsts lasts l v =
    (IsFalse g.on0 × (l ≡ 0) × (v ≡ pos 0))
    ⊎ ((firsts l < n) × IsEnded g π periods ends (firsts l) (lasts l) l v
    × IsLatest g π periods n ends (firsts l) l v)

pub record IsTable (g : ThermalUnit) (π : PriceLists) (periods n : ℕ) (ends : ℕ →
    Option ℤ) (firsts lasts : ℕ → ℕ) : Type 0 where
  pub complete : IsComplete g π periods n ends
  pub sound : (l : ℕ) (v : ℤ) → ends l ≡ Some v → IsFrom g π periods n ends firsts lasts l v
