use Rattle.ramp_step.proofs.Common.{◌≡◌, ℕ, ◌+◌, ◌<◌, ◌≤◌, knot}
use Rattle.ramp_step.proofs.cutting.drop_from.Given as goal

abbrev pub invariant-loop-i : goal.invariant-loop-i
invariant-loop-i l = record {
  before : (k : ℕ) → k < l.fn.from → knot l.knots k ≡ knot l.fn.knots k;
  moved : (k : ℕ) → l.fn.from ≤ k → k < l.i → knot l.knots k ≡ knot l.fn.knots (k + l.by);
  rest : (k : ℕ) → l.i ≤ k → knot l.knots k ≡ knot l.fn.knots k;
}
