-- What the units of some numbers earn and give, added up.
use Rattle.std.specs.Prelude.{◌≡◌, ℕ, suc, ◌*◌, ◌<◌, ℤ, pos, neg_ℤ, ◌+ℤ◌}
use Rattle.std.specs.Prelude.{List, map, length, Some, slice_get}
use Rattle.std.specs.List.{All, AllZip, range_with_len}
use Rattle.std.specs.Option.{option_map_or}
use Rattle.uc_model.specs.Data.{AnyUnit, PriceLists, Schedule, Market, units}
use Rattle.uc_model.specs.Earnings.{earnings, supply_in}
use Rattle.plain_lists.specs.Ranges.{IsFrom}
use Rattle.uc_model.specs.Runs.{Fits}
use Rattle.uc_model.specs.Schedules.{reserve_in}
use Rattle.plain_lists.specs.Sums.{int_at, total, zip_with}
use Rattle.uc_model.specs.Systems.{total_power, total_reserve}
use Rattle.audit_check.specs.declared.sums.Sums.{Sums}

-- g of the unit of a number, and 0 where there is no such unit
abbrev pub part_of : Market → (AnyUnit → Schedule → ℤ) → ℕ → Schedule → ℤ
part_of m g number s = option_map_or (λ (u : AnyUnit). g u s) (slice_get (units m) number) (pos 0)

-- the same of each number with its schedule, added up
abbrev pub sum_of : Market → (AnyUnit → Schedule → ℤ) → List ℕ → List Schedule → ℤ
sum_of m g numbers schedules = total (zip_with (part_of m g) numbers schedules)

-- the schedule fits the prices, if there is a unit of that number
abbrev pub FitsAt : Market → PriceLists → ℕ → Schedule → Type 0
FitsAt m π number s = (u : AnyUnit) → slice_get (units m) number ≡ Some u → Fits u π s

-- what schedules earn, give and reserve that fit the units of these numbers
pub record AreSumsOf (m : Market) (π : PriceLists) (numbers : List ℕ) (sums : Sums)
    : Type 0 where
  pub schedules : List Schedule
  pub fit : AllZip (FitsAt m π) numbers schedules
  pub earned : sums.earned ≡ sum_of m (λ u s. earnings u π s) numbers schedules
  pub supply : (k : ℕ) → k < m.periods → int_at sums.supply.items k
      ≡ sum_of m (λ u s. supply_in u s (suc k)) numbers schedules
  pub reserve : (k : ℕ) → k < m.periods → int_at sums.reserve.items k
      ≡ sum_of m (λ u s. reserve_in s (suc k)) numbers schedules

-- no larger than so many 64-bit numbers can be
abbrev pub IsSmall : ℕ → ℤ → Type 0
IsSmall count x =
    IsFrom (neg_ℤ (pos (count * 9223372036854775808))) (pos (count * 9223372036854775808)) x

-- a number for each period, none of them larger than that
pub record AreWithin (periods count : ℕ) (sums : Sums) : Type 0 where
  pub supply_length : length sums.supply.items ≡ periods
  pub reserve_length : length sums.reserve.items ≡ periods
  pub earned : IsSmall count sums.earned
  pub supply : All (IsSmall count) sums.supply.items
  pub reserve : All (IsSmall count) sums.reserve.items

-- one more number is in the sums, with a schedule that fits
pub record IsMore (m : Market) (π : PriceLists) (number : ℕ) (old new : Sums) : Type 0 where
  pub schedule : Schedule
  pub fit : FitsAt m π number schedule
  pub earned : new.earned ≡ old.earned +ℤ part_of m (λ u s. earnings u π s) number schedule
  pub supply : (k : ℕ) → k < m.periods → int_at new.supply.items k
      ≡ int_at old.supply.items k +ℤ part_of m (λ u s. supply_in u s (suc k)) number schedule
  pub reserve : (k : ℕ) → k < m.periods → int_at new.reserve.items k
      ≡ int_at old.reserve.items k +ℤ part_of m (λ u s. reserve_in s (suc k)) number schedule

-- the sums of each item of a list are added
pub record AreAdded {X : Type 0} (sums_in : X → Sums) (items : List X) (old new : Sums)
    : Type 0 where
  pub earned : new.earned ≡ old.earned +ℤ total (map (λ x. (sums_in x).earned) items)
  pub supply : (k : ℕ) → k < length old.supply.items → int_at new.supply.items k
      ≡ int_at old.supply.items k +ℤ total (map (λ x. int_at (sums_in x).supply.items k) items)
  pub reserve : (k : ℕ) → k < length old.reserve.items → int_at new.reserve.items k
      ≡ int_at old.reserve.items k +ℤ total (map (λ x. int_at (sums_in x).reserve.items k) items)

-- the sums of one schedule of each unit that fits the prices
pub record AreSumsOfAll (m : Market) (π : PriceLists) (sums : Sums) : Type 0 where
  pub schedules : List Schedule
  pub fit : AllZip (λ u s. Fits u π s) (units m) schedules
  pub earned : sums.earned ≡ total (zip_with (λ u s. earnings u π s) (units m) schedules)
  pub supply :
      sums.supply.items ≡ map (total_power (units m) schedules) (range_with_len 0 m.periods)
  pub reserve :
      sums.reserve.items ≡ map (total_reserve (units m) schedules) (range_with_len 0 m.periods)
