-- A thermal unit of small numbers, for tests.
use Rattle.std.specs.Prelude.{◌+◌, pos, List, [], ◌∷◌}
use Rattle.uc_model.specs.declared.units.Mark.{Mark}
use Rattle.uc_model.specs.Data.{ThermalUnit}
use Rattle.test_tiny.specs.declared.small.SmallUnit.{SmallUnit}

-- two lags, and two points for the least and the greatest power
abbrev pub small_unit_of : SmallUnit → List Mark → ThermalUnit
small_unit_of n marks = record {
  must_run = n.must_run;
  min_power = pos n.min_power;
  max_power = pos (n.min_power + n.range);
  ramp_up = pos n.ramp_up;
  ramp_down = pos n.ramp_down;
  start_limit = pos n.start_limit;
  stop_limit = pos n.stop_limit;
  min_up = 1 + n.more_up;
  min_down = 1 + n.more_down;
  power0 = pos n.power0;
  on0 = n.on0;
  up0 = n.up0;
  down0 = n.down0;
  lags =
      record { lag = n.first_lag; cost = pos n.first_cost }
      ∷ record { lag = n.first_lag + n.lag_gap; cost = pos n.second_cost } ∷ [];
  points =
      record { at = pos n.min_power; cost = pos n.least_cost }
      ∷ record { at = pos (n.min_power + n.range); cost = pos n.greatest_cost } ∷ [];
  window = marks;
}
