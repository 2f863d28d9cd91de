-- Units that do nothing: what a task has room for (this project's profile).
use Rattle.std.specs.Prelude.{ℕ, pos, false, [], ◌∷◌, replicate}
use Rattle.uc_model.specs.declared.units.Mark.TheVariants.{Free}
use Rattle.uc_model.specs.Data.{ThermalUnit, BidUnit}

abbrev pub idle_unit_of : ℕ → ThermalUnit
idle_unit_of periods = record {
  must_run = false;
  min_power = pos 0;
  max_power = pos 0;
  ramp_up = pos 0;
  ramp_down = pos 0;
  start_limit = pos 0;
  stop_limit = pos 0;
  min_up = 1;
  min_down = 1;
  power0 = pos 0;
  on0 = false;
  up0 = 0;
  down0 = 0;
  lags = [];
  points = record { at = pos 0; cost = pos 0 } ∷ [];
  window = replicate periods Free;
}

abbrev pub idle_bid_of : ℕ → BidUnit
idle_bid_of periods = record { blocks = replicate periods [] }
