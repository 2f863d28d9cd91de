-- The tables of a unit in a case file: each test in order, with its fault (pglib-uc; bids are this
-- project's profile).
use Rattle.std.specs.Prelude.{ℕ, suc, ◌==◌, nat_lt, int_lt, List, ◌∷◌, if◌then◌else◌, Ok, ℤ}
use Rattle.uc_model.specs.declared.units.Lag.{Lag}
use Rattle.uc_model.specs.declared.units.Point.{Point}
use Rattle.uc_model.specs.declared.units.Mark.{Mark}
use Rattle.uc_model.specs.Data.{ThermalUnit, RenewableUnit, BidUnit}
use Rattle.uc_text.specs.Values.{Value}
use Rattle.uc_text.specs.Magnitudes.{most_power, most_output}
use Rattle.uc_field.specs.Sites.{fault, field_at, item_at}
use Rattle.uc_text.specs.Words.{◌>>=◌, ◌>>◌, refuse}
use Rattle.uc_field.specs.Forms.{Read, Keys, keys, key, key_or_none, object, power, time, flag}
use Rattle.uc_field.specs.Lists.{startup, piecewise, commitment, powers, blocks}
use Rattle.uc_field.specs.declared.fault.CaseCode.TheVariants.{RangeOrder}
use Rattle.uc_field.specs.declared.fault.Field.TheVariants.{MustRun, PowerOutputMinimum}
use Rattle.uc_field.specs.declared.fault.Field.TheVariants.{PowerOutputMaximum, RampUpLimit}
use Rattle.uc_field.specs.declared.fault.Field.TheVariants.{RampDownLimit, RampStartupLimit}
use Rattle.uc_field.specs.declared.fault.Field.TheVariants.{RampShutdownLimit, TimeUpMinimum}
use Rattle.uc_field.specs.declared.fault.Field.TheVariants.{TimeDownMinimum, PowerOutputT0}
use Rattle.uc_field.specs.declared.fault.Field.TheVariants.{UnitOnT0, TimeUpT0, TimeDownT0, Startup}
use Rattle.uc_field.specs.declared.fault.Field.TheVariants.{PiecewiseProduction, Commitment, Blocks}
use Rattle.uc_field.specs.declared.fault.Site.{Site}
use Rattle.uc_case.specs.declared.parts.Output.{Output}
use Rattle.uc_case.specs.declared.parts.Ramps.{Ramps}
use Rattle.uc_case.specs.declared.parts.Past.{Past}

-- ---- a thermal unit

-- 0 is read as 1
abbrev pub at_least_one : ℕ → ℕ
at_least_one n = if n == 0 then 1 else n

unfoldable pub output : Keys → Read Output
output u = do
  must_run ← key u MustRun flag
  least ← key u PowerOutputMinimum (power most_power)
  most ← key u PowerOutputMaximum (power most_output)
  refuse (fault (field_at u.at PowerOutputMinimum) RangeOrder) (int_lt most least)
  Ok (record { must_run = must_run; least = least; most = most })

unfoldable pub ramps : Keys → Read Ramps
ramps u = do
  up ← key u RampUpLimit (power most_power)
  down ← key u RampDownLimit (power most_power)
  start ← key u RampStartupLimit (power most_power)
  stop ← key u RampShutdownLimit (power most_power)
  Ok (record { up = up; down = down; start = start; stop = stop })

unfoldable pub past : Keys → Read Past
past u = do
  min_up ← key u TimeUpMinimum time
  min_down ← key u TimeDownMinimum time
  power ← key u PowerOutputT0 (power most_output)
  on ← key u UnitOnT0 flag
  up ← key u TimeUpT0 time
  down ← key u TimeDownT0 time
  Ok (record {
    min_up = at_least_one min_up;
    min_down = at_least_one min_down;
    power = power;
    on = on;
    up = up;
    down = down;
  })

-- the lists of a thermal unit
pub record UnitLists : Type 0 where
  pub lags : List Lag
  pub points : List Point
  pub window : List Mark

unfoldable pub unit_lists : ℕ → Output → Keys → Read UnitLists
unit_lists periods o u = do
  lags ← key u Startup startup
  points ← key u PiecewiseProduction (piecewise o.least o.most)
  window ← key_or_none u Commitment (commitment periods)
  Ok (record { lags = lags; points = points; window = window })

abbrev pub joined_unit : Output → Ramps → Past → UnitLists → ThermalUnit
joined_unit o r p l = record {
  must_run = o.must_run;
  min_power = o.least;
  max_power = o.most;
  ramp_up = r.up;
  ramp_down = r.down;
  start_limit = r.start;
  stop_limit = r.stop;
  min_up = p.min_up;
  min_down = p.min_down;
  power0 = p.power;
  on0 = p.on;
  up0 = p.up;
  down0 = p.down;
  lags = l.lags;
  points = l.points;
  window = l.window;
}

unfoldable pub keyed_unit : ℕ → Keys → Read ThermalUnit
keyed_unit periods u = do
  o ← output u
  r ← ramps u
  p ← past u
  l ← unit_lists periods o u
  Ok (joined_unit o r p l)

unfoldable pub thermal_unit : ℕ → Site → Value → Read ThermalUnit
thermal_unit periods at v = do
  ms ← object at v
  keyed_unit periods (keys at ms)

-- ---- a renewable unit

-- the position of the first item where the least is above the most, or 0
abbrev pub first_crossed : ℕ → List ℤ → List ℤ → ℕ
first_crossed k (least ∷ ls) (most ∷ ms) =
    if int_lt most least then k else first_crossed (suc k) ls ms
first_crossed k _ _ = 0

unfoldable pub keyed_renewable : ℕ → Keys → Read RenewableUnit
keyed_renewable periods u = do
  least ← key u PowerOutputMinimum (powers periods)
  most ← key u PowerOutputMaximum (powers periods)
  let k = first_crossed 1 least most
  refuse (fault (item_at (field_at u.at PowerOutputMinimum) k) RangeOrder) (nat_lt 0 k)
  Ok (record { least = least; most = most })

unfoldable pub renewable_unit : ℕ → Site → Value → Read RenewableUnit
renewable_unit periods at v = do
  ms ← object at v
  keyed_renewable periods (keys at ms)

-- ---- a bid

unfoldable pub bid_unit : ℕ → Site → Value → Read BidUnit
bid_unit periods at v = do
  ms ← object at v
  bs ← key (keys at ms) Blocks (blocks periods)
  Ok (record { blocks = bs })
