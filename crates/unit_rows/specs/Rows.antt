-- How the table is read: the row of a last on period at that place (this project's profile).
use Rattle.std.specs.Prelude.{◌≡◌, ◌⊎◌, ℕ, ◌+◌, ◌*◌, ◌≤◌, ℤ, pos, neg_ℤ, ◌≤ℤ◌, IsTrue, MatchOption}
use Rattle.std.specs.Prelude.{List, slice_index_or, Option, Some, None}
use Rattle.std.specs.Option.{option_map, option_map_or}
use Rattle.uc_model.specs.Data.{ThermalUnit}
use Rattle.plain_lists.specs.Ranges.{IsFrom}
use Rattle.unit_rows.specs.declared.table.Ended.{Ended}
use Rattle.unit_rows.specs.declared.table.Entry.{Entry}
use Rattle.unit_rows.specs.Spells.{StopsAtOnce}
use Rattle.unit_rows.specs.Ends.{HasAtMost}

abbrev pub row_at : List (Option Ended) → ℕ → Option Ended
row_at rows l = slice_index_or rows l None

-- the cost of all up to last on period l, if something ends there
abbrev pub cost_at : List (Option Ended) → ℕ → Option ℤ
cost_at rows l = option_map (λ (e : Ended). e.cost) (row_at rows l)

-- where the spell that ends there begins, and the on period before it
abbrev pub first_at : List (Option Ended) → ℕ → ℕ
first_at rows l = option_map_or (λ (e : Ended). e.first) (row_at rows l) 0

abbrev pub before_at : List (Option Ended) → ℕ → ℕ
before_at rows l = option_map_or (λ (e : Ended). e.before) (row_at rows l) 0

-- at most so many times the greatest magnitude of a period's or a start's cost
abbrev pub IsWithinTimes : ℕ → ℤ → Type 0
IsWithinTimes n v = IsFrom (neg_ℤ (pos (n * 1000000000000000))) (pos (n * 1000000000000000)) v

-- the costs of the table are within bounds
abbrev pub AreWithin : List (Option Ended) → Type 0
AreWithin rows = (l : ℕ) (v : ℤ) → cost_at rows l ≡ Some v → IsWithinTimes (2 * l + 2) v

-- there is an entry, of cost at most v
abbrev pub HasEntryAtMost : Option Entry → ℤ → Type 0
HasEntryAtMost o v = (r : Entry) × (o ≡ Some r) × (r.cost ≤ℤ v)

-- e is put into row l: the lesser stays, and of equal ones e
pub record IsPut (l : ℕ) (e : Ended) (rows rows' : List (Option Ended)) : Type 0 where
  pub here : (row_at rows' l ≡ row_at rows l) ⊎ (row_at rows' l ≡ Some e)
  pub old : (v : ℤ) → cost_at rows l ≡ Some v → HasAtMost (cost_at rows' l) v
  pub added : HasAtMost (cost_at rows' l) e.cost
  pub latest : cost_at rows' l ≡ Some e.cost → row_at rows' l ≡ Some e

-- what ends before period 1: a spell of a unit that stops at once, or nothing but the time off of
-- one that is off before it
abbrev pub IsFirstRow : ThermalUnit → Option Ended → Type 0
IsFirstRow g o =
    MatchOption o (IsTrue g.on0 × (StopsAtOnce g → g.min_up ≤ g.up0 → ⊥))
    (λ e. (e ≡ record { cost = pos 0; first = 0; before = 0 })
    × (IsTrue g.on0 → StopsAtOnce g × (g.min_up ≤ g.up0)))
