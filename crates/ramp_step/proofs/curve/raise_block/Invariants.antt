use Rattle.ramp_step.proofs.Common.{◌≡◌, ℕ, ◌<◌, ◌≤◌, ◌+ℤ◌, ◌≤ℤ◌, knot, power, height, line_from}
use Rattle.ramp_step.proofs.curve.raise_block.Given as goal

abbrev pub invariant-loop-i : goal.invariant-loop-i
invariant-loop-i l = record {
  before : (k : ℕ) → k < l.first → knot l.knots k ≡ knot l.fn.knots k;
  powers : (k : ℕ) → l.first ≤ k → k < l.i → power l.knots k ≡ power l.fn.knots k;
  heights : (k : ℕ) → l.first ≤ k → k < l.i →
      height l.knots k ≡ height l.fn.knots k +ℤ line_from l.start l.level l.price (power l.fn.knots k);
  upto : (k : ℕ) → l.first ≤ k → k < l.i → power l.fn.knots k ≤ℤ l.end;
  rest : (k : ℕ) → l.i ≤ k → knot l.knots k ≡ knot l.fn.knots k;
}
