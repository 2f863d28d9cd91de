-- A generated unit and its schedule, from its draws (this project's profile). Power is in kilowatts
-- and money in millionths of the currency; a product before a quotient is taken first.
use Rattle.std.specs.Prelude.{ℕ, zero, suc, ◌+◌, ◌-◌, ◌*◌, ◌/◌, ◌%◌, min, pos, Bool, true, false}
use Rattle.std.specs.Prelude.{◌&&◌, if◌then◌else◌, nat_le, nat_lt, List, [], ◌∷◌, map, replicate}
use Rattle.std.specs.List.{range_with_len}
use Rattle.rand_pcg.specs.Lcg.{Lcg}
use Rattle.uc_model.specs.declared.units.Lag.{Lag}
use Rattle.uc_model.specs.declared.units.Point.{Point}
use Rattle.uc_model.specs.declared.units.Mark.TheVariants.{Free}
use Rattle.uc_model.specs.Data.{ThermalUnit, RenewableUnit, Schedule}
use Rattle.case_make.specs.declared.draws.UnitDraws.{UnitDraws}
use Rattle.case_make.specs.Words.{word_at, draw}

-- ---- a thermal unit takes nine words

-- the draws of the unit whose first word is at an index
unfoldable pub unit_draws : Lcg → ℕ → UnitDraws
unit_draws g index = record {
  megawatts = draw 20 400 (word_at g index);
  least_percent = draw 20 50 (word_at g (index + 1));
  ramp_divisor = draw 2 6 (word_at g (index + 2));
  min_up = draw 1 8 (word_at g (index + 3));
  min_down = draw 1 8 (word_at g (index + 4));
  state = draw 0 2 (word_at g (index + 5));
  energy_cost = draw 15 60 (word_at g (index + 6));
  start_hundreds = draw 1 50 (word_at g (index + 7));
  level_percent = draw 0 100 (word_at g (index + 8));
}

-- its greatest and its least power
unfoldable pub max_of : UnitDraws → ℕ
max_of d = 1000 * d.megawatts

unfoldable pub min_of : UnitDraws → ℕ
min_of d = max_of d * d.least_percent / 100

-- both ramps
unfoldable pub ramp_of : UnitDraws → ℕ
ramp_of d = max_of d / d.ramp_divisor

-- whether it is on before the horizon, and so throughout
unfoldable pub is_on : UnitDraws → Bool
is_on d = nat_lt 0 d.state

-- its power before the horizon where it is on
unfoldable pub level_of : UnitDraws → ℕ
level_of d = min_of d + (max_of d - min_of d) * d.level_percent / 100

-- a start after each lag; the first costs so many hundreds of the currency
abbrev pub start_cost_of : UnitDraws → ℕ
start_cost_of d = 100000000 * d.start_hundreds

unfoldable pub lags_of : UnitDraws → List Lag
lags_of d =
    record { lag = d.min_down; cost = pos (start_cost_of d) }
    ∷ record { lag = d.min_down + 4; cost = pos (2 * start_cost_of d) }
    ∷ record { lag = d.min_down + 12; cost = pos (3 * start_cost_of d) } ∷ []

-- the power and the cost of point i from 0 to 3
unfoldable pub at_of : UnitDraws → ℕ → ℕ
at_of d i = min_of d + (max_of d - min_of d) * i / 3

unfoldable pub cost_of : UnitDraws → ℕ → ℕ
cost_of d zero = 1000 * d.energy_cost * min_of d
cost_of d (suc i) = cost_of d i + 100 * d.energy_cost * (10 + suc i) * (at_of d (suc i) - at_of d i)

abbrev pub point_of : UnitDraws → ℕ → Point
point_of d i = record { at = pos (at_of d i); cost = pos (cost_of d i) }

unfoldable pub unit_of : UnitDraws → ThermalUnit
unit_of d = record {
  must_run = false;
  min_power = pos (min_of d);
  max_power = pos (max_of d);
  ramp_up = pos (ramp_of d);
  ramp_down = pos (ramp_of d);
  start_limit = pos (min_of d + ramp_of d);
  stop_limit = pos (min_of d + ramp_of d);
  min_up = d.min_up;
  min_down = d.min_down;
  power0 = pos (if is_on d then level_of d else 0);
  on0 = is_on d;
  up0 = if is_on d then 24 else 0;
  down0 = if is_on d then 0 else 24;
  lags = lags_of d;
  points = map (point_of d) (range_with_len 0 4);
  window = replicate 48 Free;
}

-- ---- its schedule

-- how far it rises, to which power, and the reserve that this leaves
unfoldable pub step_of : UnitDraws → ℕ
step_of d = min (max_of d - level_of d) (ramp_of d) / 2

unfoldable pub high_of : UnitDraws → ℕ
high_of d = level_of d + step_of d

unfoldable pub reserve_of : UnitDraws → ℕ
reserve_of d = min (max_of d - high_of d) (ramp_of d - step_of d)

-- the hours of high power, by a period's place, which counts from 0
unfoldable pub is_high : ℕ → Bool
is_high k = nat_le 8 (k % 24) && nat_le (k % 24) 19

-- the power of a unit that is on, in the period at an index
unfoldable pub power_at : ℕ → ℕ → ℕ → ℕ
power_at level high k = if is_high k then high else level

-- the schedule of a unit that stays on, and of one that stays off
unfoldable pub running : ℕ → ℕ → ℕ → Schedule
running level high reserve = record {
  on = replicate 48 true;
  power = map (power_at level high) (range_with_len 0 48);
  reserve = replicate 48 reserve;
}

unfoldable pub idle : Schedule
idle = record { on = replicate 48 false; power = replicate 48 0; reserve = replicate 48 0 }

unfoldable pub unit_schedule : UnitDraws → Schedule
unit_schedule d = if is_on d then running (level_of d) (high_of d) (reserve_of d) else idle

-- ---- a renewable unit takes 49 words

-- its capacity, from the word at an index, and its greatest power in each period, from the words
-- after it
unfoldable pub capacity_at : Lcg → ℕ → ℕ
capacity_at g index = 1000 * draw 5 100 (word_at g index)

unfoldable pub most_at : Lcg → ℕ → ℕ → ℕ
most_at g index k = capacity_at g index * draw 0 100 (word_at g (index + 1 + k)) / 100

unfoldable pub most_powers : Lcg → ℕ → List ℕ
most_powers g index = map (most_at g index) (range_with_len 0 48)

unfoldable pub renewable_of : List ℕ → RenewableUnit
renewable_of powers = record { least = replicate 48 (pos 0); most = map pos powers }

-- it gives its greatest power
unfoldable pub full : List ℕ → Schedule
full powers = record { on = replicate 48 true; power = powers; reserve = replicate 48 0 }
