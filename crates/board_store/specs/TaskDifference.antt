-- Where the flat lists of two tasks differ (this project's profile).
use Rattle.std.specs.Prelude.{◌≡◌, ℕ, min, ℤ, not, Option, None, List, length}
use Rattle.std.specs.List.{find, range_with_len}
use Rattle.std.specs.Option.{option_map}
use Rattle.std.specs.Ordering.{int_eq}
use Rattle.uc_model.specs.Data.{AnyUnit, Thermal, Flat, Bid, PriceLists}
use Rattle.plain_lists.specs.Sums.{int_at}
use Rattle.uc_model.specs.TaskLists.{task_numbers}

-- a place, from 0, and what two lists have there
pub record Difference : Type 0 where
  pub place : ℕ
  pub board : ℤ
  pub task : ℤ

-- the first place that both lists have and where they differ
abbrev pub first_difference : List ℤ → List ℤ → Option ℕ
first_difference own given =
    find (λ k. not (int_eq (int_at own k) (int_at given k)))
    (range_with_len 0 (min (length own) (length given)))

-- that place with the board's own number and the task's
abbrev pub difference : List ℤ → List ℤ → Option Difference
difference own given =
    option_map (λ k. record { place = k; board = int_at own k; task = int_at given k })
    (first_difference own given)

-- the unit's lists over the horizon have that length
abbrev pub IsOver : ℕ → AnyUnit → Type 0
IsOver n (Thermal g) = length g.window ≡ n
IsOver n (Flat r) = (length r.least ≡ n) × (length r.most ≡ n)
IsOver n (Bid b) = length b.blocks ≡ n

-- prices and a unit over one horizon
pub record IsTask (π : PriceLists) (u : AnyUnit) : Type 0 where
  pub reserve : length π.reserve ≡ length π.energy
  pub over : IsOver (length π.energy) u

-- tasks whose lists have the same number at each place that both have are of the same prices and the same unit
abbrev pub SameTask : Type 0
SameTask =
    (π ρ : PriceLists) (u v : AnyUnit) → IsTask π u → IsTask ρ v →
    first_difference (task_numbers π u) (task_numbers ρ v) ≡ None → (π ≡ ρ) × (u ≡ v)
