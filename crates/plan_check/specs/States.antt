-- What is seen of a unit in one period, and the tests of its rules there (pglib-uc; the window is
-- this project's profile).
use Rattle.std.specs.Prelude.{◌≡◌, ℕ, ◌-◌, ℤ, pos, nat_le, List, Option, None}
use Rattle.std.specs.Option.{option_map, option_and_then}
use Rattle.uc_model.specs.declared.kinds.Kind.TheVariants as kinds
use Rattle.uc_model.specs.declared.kinds.RuleCode.{RuleCode}
use Rattle.uc_model.specs.declared.kinds.RuleCode.TheVariants.{MustRun, Initial, MinUp, MinDown}
use Rattle.uc_model.specs.declared.kinds.RuleCode.TheVariants.{Range, StartCap, StopCap, RampUp}
use Rattle.uc_model.specs.declared.kinds.RuleCode.TheVariants.{RampDown, Window}
use Rattle.uc_model.specs.Data.{ThermalUnit, Schedule}
use Rattle.uc_model.specs.Refusals.{Refusal, told, unless, must_run_broken, initial_broken}
use Rattle.uc_model.specs.Refusals.{min_up_broken, min_down_broken, range_broken, start_broken}
use Rattle.uc_model.specs.Refusals.{output_in, stop_broken, ramp_up_broken, ramp_down_broken}
use Rattle.uc_model.specs.Refusals.{window_broken}
use Rattle.uc_model.specs.Schedules.{on_in, reserve_in, above_min}
use Rattle.plan_check.specs.declared.states.Sides.{Sides}
use Rattle.plan_check.specs.declared.states.State.{State}

-- the two numbers that a broken rule compares
abbrev pub sides_of : Option Sides → Option (ℤ × ℤ)
sides_of o = option_map (λ (x : Sides). (x.left, x.right)) o

-- a run that ends before a period, and is shorter than the minimum time
abbrev pub run_broken : Option ℕ → ℕ → ℕ → Option (ℤ × ℤ)
run_broken since end minimum =
    option_and_then (λ (start : ℕ). unless (nat_le minimum (end - start)) (pos (end - start))
    (pos minimum)) since

-- what is seen in a period; period 0 is the state before the horizon
pub record IsStateIn (g : ThermalUnit) (s : Schedule) (period : ℕ) (state : State) : Type 0 where
  pub on : state.on ≡ on_in g s period
  pub above : state.above ≡ above_min g s period
  pub reserve : state.reserve ≡ reserve_in s period
  pub output : state.output ≡ output_in g s period

-- a thermal rule at period k + 1
abbrev pub thermal_broken : RuleCode → ThermalUnit → Schedule → ℕ → Option (ℤ × ℤ)
thermal_broken MustRun g s k = must_run_broken g s k
thermal_broken Initial g s k = initial_broken g s k
thermal_broken MinUp g s k = min_up_broken g s k
thermal_broken MinDown g s k = min_down_broken g s k
thermal_broken Range g s k = range_broken g s k
thermal_broken StartCap g s k = start_broken g s k
thermal_broken StopCap g s k = stop_broken g s k
thermal_broken RampUp g s k = ramp_up_broken g s k
thermal_broken RampDown g s k = ramp_down_broken g s k
thermal_broken Window g s k = window_broken g s k
thermal_broken _ g s k = None

-- the period told is k + 1, but k where a stop comes from too high an output
abbrev pub told_shift : RuleCode → ℕ
told_shift StopCap = 0
told_shift _ = 1

-- what is told of one thermal rule
abbrev pub rule_refusals : ℕ → ℕ → ThermalUnit → Schedule → RuleCode → List Refusal
rule_refusals periods unit g s rule =
    told rule kinds.Thermal unit periods (told_shift rule) (thermal_broken rule g s)
