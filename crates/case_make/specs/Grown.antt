-- A schedule of a system that grows unit by unit, and its sums.
use Rattle.std.specs.Prelude.{◌≡◌, ℕ, ◌<◌, ◌≤◌, ℤ, pos, List, map, length, slice_index}
use Rattle.uc_model.specs.Data.{Schedule}
use Rattle.uc_model.specs.PlainUnits.{schedule_of}
use Rattle.plain_lists.specs.Sums.{int_at}
use Rattle.case_make.specs.declared.growing.Growing.{Growing}
use Rattle.case_make.specs.Made.{power_sum, reserve_sum}

abbrev pub plan_of : Growing → List Schedule
plan_of x = map schedule_of x.responses.items

-- the sums are those of the schedules, and the reserve is one in all periods
pub record AreSums (plan : List Schedule) (powers : List ℤ) (reserve : ℕ) : Type 0 where
  pub count : length powers ≡ 48
  pub powers_are : (k : ℕ) → k < 48 → int_at powers k ≡ pos (power_sum plan k)
  pub reserve_is : (k : ℕ) → k < 48 → reserve ≡ reserve_sum plan k

abbrev pub IsSummed : Growing → Type 0
IsSummed x = AreSums (plan_of x) x.power.items x.reserve

-- no sum is above the bound
pub record IsSmall (most : ℕ) (plan : List Schedule) : Type 0 where
  pub powers : (k : ℕ) → power_sum plan k ≤ most
  pub reserves : (k : ℕ) → reserve_sum plan k ≤ most

-- the schedule is over the periods, with one reserve in all of them
pub record IsSteady (s : Schedule) : Type 0 where
  pub powers : length s.power ≡ 48
  pub reserves : length s.reserve ≡ 48
  pub same : (k : ℕ) → k < 48 → slice_index s.reserve k ≡ slice_index s.reserve 0

-- there is room for so many more schedules
abbrev pub HasRoom : ℕ → Growing → Type 0
HasRoom count x = count ≤ x.responses.spare
