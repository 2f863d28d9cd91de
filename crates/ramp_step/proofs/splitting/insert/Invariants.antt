use Rattle.ramp_step.proofs.Common.{◌≡◌, ℕ, ◌+◌, ◌<◌, ◌≤◌, knot}
use Rattle.ramp_step.proofs.splitting.insert.Given as goal

abbrev pub decreases-loop-k : goal.decreases-loop-k
decreases-loop-k l = l.k

abbrev pub invariant-loop-k : goal.invariant-loop-k
invariant-loop-k l = record {
  low : l.m ≤ l.k;
  high : l.k ≤ l.used;
  after : (i : ℕ) → l.k ≤ i → i < l.used → knot l.knots (i + 1) ≡ knot l.fn.knots i;
  rest : (i : ℕ) → i ≤ l.k → i < l.used → knot l.knots i ≡ knot l.fn.knots i;
}
