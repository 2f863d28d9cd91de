use Rattle.ramp_step.proofs.Common.{◌≡◌, ℕ, ◌+◌, ◌<◌, ◌≤◌, knot}
use Rattle.ramp_step.proofs.spaced.open.Given as goal

abbrev pub decreases-loop-k : goal.decreases-loop-k
decreases-loop-k l = l.k

abbrev pub invariant-loop-k : goal.invariant-loop-k
invariant-loop-k l = record {
  high : l.k ≤ l.used;
  moved : (i : ℕ) → l.k ≤ i → i < l.used → knot l.knots (i + l.by) ≡ knot l.fn.knots i;
  rest : (i : ℕ) → i < l.k → knot l.knots i ≡ knot l.fn.knots i;
}
