-- Totals that run while answers come in: those of a proposal's answers, where a missing one gives
-- and earns nothing (this project's profile).
use Rattle.std.specs.Prelude.{◌≡◌, ℕ, suc, ℤ, ◌+ℤ◌, Some, List, length, map, slice_get}
use Rattle.std.specs.List.{range_with_len}
use Rattle.uc_model.specs.Data.{AnyUnit}
use Rattle.uc_model.specs.Earnings.{supply_in}
use Rattle.uc_model.specs.Schedules.{reserve_in}
use Rattle.plain_lists.specs.Sums.{total}
use Rattle.uc_model.specs.Systems.{total_power, total_reserve}
use Rattle.board_store.specs.Board.{Answer, no_answer, schedules_in, earned_in}

-- what all units give in a period, and what they earn, where f says the answer of each of n units
abbrev pub power_by : List AnyUnit → (ℕ → Answer) → ℕ → ℕ → ℤ
power_by us f n k = total_power us (schedules_in (map f (range_with_len 0 n))) k

abbrev pub reserve_by : List AnyUnit → (ℕ → Answer) → ℕ → ℕ → ℤ
reserve_by us f n k = total_reserve us (schedules_in (map f (range_with_len 0 n))) k

abbrev pub earned_by : (ℕ → Answer) → ℕ → ℤ
earned_by f n = total (earned_in (map f (range_with_len 0 n)))

-- f2 has one answer more than f: that of unit x with number u
pub record AddsOne (us : List AnyUnit) (f f2 : ℕ → Answer) (u n : ℕ) (x : AnyUnit) : Type 0 where
  pub power : (k : ℕ) → power_by us f2 n k ≡ power_by us f n k
      +ℤ supply_in x (f2 u).schedule (suc k)
  pub reserve : (k : ℕ) → reserve_by us f2 n k ≡ reserve_by us f n k
      +ℤ reserve_in (f2 u).schedule (suc k)
  pub earned : earned_by f2 n ≡ earned_by f n +ℤ (f2 u).earned

abbrev pub TotalsRun : Type 0
TotalsRun =
    (us : List AnyUnit) (f f2 : ℕ → Answer) (u n : ℕ) (x : AnyUnit) → length us ≡ n →
    slice_get us u ≡ Some x → f u ≡ no_answer →
    ((v : ℕ) → (v ≡ u → ⊥) → f2 v ≡ f v) → AddsOne us f f2 u n x
