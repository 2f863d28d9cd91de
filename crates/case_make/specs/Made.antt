-- The case and the schedule that a number stands for (this project's profile): 73 thermal units of
-- nine words each, then 81 renewable units of 49 words each, over 48 periods.
use Rattle.std.specs.Prelude.{ℕ, ◌+◌, ◌*◌, ◌/◌, ◌%◌, ℤ, pos, List, [], ◌∷◌, ◌++◌, map, slice_index}
use Rattle.std.specs.List.{range_with_len, sum_by}
use Rattle.rand_pcg.specs.Lcg.{Lcg}
use Rattle.uc_model.specs.Data.{NamedThermalUnit, NamedRenewableUnit, Market, Schedule}
use Rattle.case_make.specs.Drawn.{unit_draws, unit_of, unit_schedule, most_powers, renewable_of}
use Rattle.case_make.specs.Drawn.{full}
use Rattle.case_make.specs.Words.{start_of}

-- a letter and two digits
unfoldable pub name_of : ℕ → ℕ → List ℕ
name_of letter number = letter ∷ (48 + number / 10) ∷ (48 + number % 10) ∷ []

-- ---- the thermal units, T01 and on, and their schedules

abbrev pub unit_place : ℕ → ℕ
unit_place i = 9 * i

unfoldable pub named_unit : Lcg → ℕ → NamedThermalUnit
named_unit g i = record { name = name_of 84 (i + 1); unit = unit_of (unit_draws g (unit_place i)) }

unfoldable pub unit_plan : Lcg → ℕ → Schedule
unit_plan g i = unit_schedule (unit_draws g (unit_place i))

unfoldable pub thermal_units : Lcg → ℕ → List NamedThermalUnit
thermal_units g count = map (named_unit g) (range_with_len 0 count)

unfoldable pub thermal_plan : Lcg → ℕ → List Schedule
thermal_plan g count = map (unit_plan g) (range_with_len 0 count)

-- ---- the renewable units, R01 and on, and their schedules; the first word is at an index

abbrev pub renewable_place : ℕ → ℕ → ℕ
renewable_place index j = index + 49 * j

unfoldable pub named_renewable : Lcg → ℕ → ℕ → NamedRenewableUnit
named_renewable g index j =
    record {
      name = name_of 82 (j + 1);
      unit = renewable_of (most_powers g (renewable_place index j));
    }

unfoldable pub renewable_plan : Lcg → ℕ → ℕ → Schedule
renewable_plan g index j = full (most_powers g (renewable_place index j))

unfoldable pub renewable_units : Lcg → ℕ → ℕ → List NamedRenewableUnit
renewable_units g index count = map (named_renewable g index) (range_with_len 0 count)

unfoldable pub renewable_plans : Lcg → ℕ → ℕ → List Schedule
renewable_plans g index count = map (renewable_plan g index) (range_with_len 0 count)

-- ---- the whole

-- the power, and the reserve, of all schedules in the period at an index, which counts from 0
abbrev pub power_sum : List Schedule → ℕ → ℕ
power_sum plan k = sum_by (λ (s : Schedule). slice_index s.power k) plan

abbrev pub reserve_sum : List Schedule → ℕ → ℕ
reserve_sum plan k = sum_by (λ (s : Schedule). slice_index s.reserve k) plan

-- demand is the total power, and nine tenths of the total reserve are required
unfoldable pub demand_of : List Schedule → List ℤ
demand_of plan = map (λ k. pos (power_sum plan k)) (range_with_len 0 48)

unfoldable pub requirement_of : List Schedule → List ℤ
requirement_of plan = map (λ k. pos (reserve_sum plan k * 9 / 10)) (range_with_len 0 48)

unfoldable pub plan_from : Lcg → List Schedule
plan_from g = thermal_plan g 73 ++ renewable_plans g (9 * 73) 81

-- the case of these units, where demand and required reserve follow from a plan
abbrev pub market_for : List Schedule → List NamedThermalUnit → List NamedRenewableUnit → Market
market_for plan thermal flat = record {
  periods = 48;
  demand = demand_of plan;
  reserves = requirement_of plan;
  thermal = thermal;
  flat = flat;
  bids = [];
}

unfoldable pub market_from : Lcg → Market
market_from g = market_for (plan_from g) (thermal_units g 73) (renewable_units g (9 * 73) 81)

pub record Pair : Type 0 where
  pub market : Market
  pub plan : List Schedule

abbrev pub made : ℕ → Pair
made number = record { market = market_from (start_of number); plan = plan_from (start_of number) }
