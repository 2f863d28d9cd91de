use Rattle.ramp_step.proofs.Common.{◌≡◌, ℕ, ◌<◌, ◌≤◌, ◌+ℤ◌, power, height, knot, reserve_term}
use Rattle.ramp_step.proofs.kink.lower.Given as goal

abbrev pub invariant-loop-i : goal.invariant-loop-i
invariant-loop-i l = record {
  powers : (k : ℕ) → k < l.i → power l.knots k ≡ power l.fn.knots k;
  heights : (k : ℕ) → k < l.i →
      height l.knots k ≡ height l.fn.knots k +ℤ reserve_term l.mu l.cap l.up (power l.fn.knots k);
  rest : (k : ℕ) → l.i ≤ k → knot l.knots k ≡ knot l.fn.knots k;
}
