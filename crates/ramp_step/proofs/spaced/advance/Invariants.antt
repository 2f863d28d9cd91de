use Rattle.ramp_step.proofs.Common.{◌≡◌, ℕ, ◌+◌, ◌<◌, ◌≤◌, ◌<ℤ◌, knot, power}
use Rattle.ramp_step.proofs.spaced.advance.Given as goal

abbrev pub invariant-loop-i : goal.invariant-loop-i
invariant-loop-i l = record {
  before : (k : ℕ) → k < l.front → knot l.knots k ≡ knot l.fn.knots k;
  moved : (k : ℕ) → l.front ≤ k → k < l.i → knot l.knots k ≡ knot l.fn.knots (k + l.room);
  rest : (k : ℕ) → l.i + l.room ≤ k → knot l.knots k ≡ knot l.fn.knots k;
  below : (k : ℕ) → l.front ≤ k → k < l.i → power l.fn.knots (k + l.room) <ℤ l.x;
}
