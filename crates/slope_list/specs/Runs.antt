-- Runs of pieces that go into the function after a step alike (this project's profile).
use Rattle.std.specs.Prelude.{◌≡◌, ◌+◌, ◌≤◌, ℤ, neg_ℤ, ◌+ℤ◌, ◌≤ℤ◌, ◌<ℤ◌}
use Rattle.uc_model.specs.declared.limits.TheConstants.{POWER_LIMIT}
use Rattle.plain_lists.specs.Ranges.{IsFrom}
use Rattle.slope_list.specs.Pieces.{last_power, function_of, IsLine}
use Rattle.slope_list.specs.declared.run.Run.{Run}
use Rattle.slope_list.specs.declared.window.Window.{Window}
use Rattle.slope_list.specs.Kink.{IsSteep}
use Rattle.slope_list.specs.Window.{nearest, paid, runs_from}

-- the power before the step is the one in reach that is nearest to the turn
abbrev pub IsNear : Window → ℤ → ℤ → Type 0
IsNear w y x = y ≡ nearest w.step.ramp_up w.step.ramp_down w.turn x

-- from a power on, lines of the function before the step are lines of the one after it, without the
-- curve's cost, moved and with a slope added
pub record IsRun (w : Window) (from : ℤ) (run : Run) : Type 0 where
  pub rise : from <ℤ run.until
  pub last : run.until ≤ℤ last_power w.start.first w.pieces.now
  pub high : (run.until +ℤ run.shift) ≤ℤ w.high
  pub near : IsNear w run.until (run.until +ℤ run.shift)
  pub shift : IsFrom (neg_ℤ POWER_LIMIT) POWER_LIMIT run.shift
  pub steep : IsSteep run.slope
  pub lines : (a b slope : ℤ) → from ≤ℤ a → b ≤ℤ run.until →
      IsLine (function_of w.start w.pieces.now) a b slope →
      IsLine (paid w.start w.pieces.now w.step w.turn) (a +ℤ run.shift) (b +ℤ run.shift)
      (slope +ℤ run.slope)
  pub fewer : (run.until +ℤ run.shift) <ℤ w.high →
      runs_from w.step w.turn run.until (run.until +ℤ run.shift) + 1
      ≤ runs_from w.step w.turn from (from +ℤ run.shift)
