use Rattle.ramp_step.proofs.Common.{ℕ, ◌<◌, ◌<ℤ◌, power}
use Rattle.ramp_step.proofs.splitting.below.Given as goal

abbrev pub invariant-loop-i : goal.invariant-loop-i
invariant-loop-i l = (k : ℕ) → k < l.i → power l.knots k <ℤ l.x
