use Rattle.ramp_step.proofs.Common.{ℕ, ◌+◌, ◌<◌, ◌<ℤ◌, height}
use Rattle.ramp_step.proofs.window.turn.Given as goal

abbrev pub invariant-loop-j : goal.invariant-loop-j
invariant-loop-j l = (i : ℕ) → i + 1 < l.j → height l.knots (i + 1) <ℤ height l.knots i
