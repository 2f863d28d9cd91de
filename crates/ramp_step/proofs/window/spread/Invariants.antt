use Rattle.ramp_step.proofs.Common.{◌≡◌, ℕ, ◌+◌, ◌<◌, ◌≤◌, ◌+ℤ◌, ◌-ℤ◌, power, height, knot}
use Rattle.ramp_step.proofs.window.spread.Given as goal

abbrev pub decreases-loop-k : goal.decreases-loop-k
decreases-loop-k l = l.k

abbrev pub invariant-loop-k : goal.invariant-loop-k
invariant-loop-k l = record {
  low : l.turn ≤ l.k;
  high : l.k ≤ l.used;
  powers : (i : ℕ) → l.k ≤ i → i < l.used → power l.knots (i + 1) ≡ power l.fn.knots i +ℤ l.up;
  heights : (i : ℕ) → l.k ≤ i → i < l.used → height l.knots (i + 1) ≡ height l.fn.knots i;
  rest : (i : ℕ) → i ≤ l.k → i < l.used → knot l.knots i ≡ knot l.fn.knots i;
}

abbrev pub invariant-loop-i : goal.invariant-loop-i
invariant-loop-i l = record {
  powers : (k : ℕ) → k < l.i → power l.knots k ≡ power l.initial.knots k -ℤ l.down;
  heights : (k : ℕ) → k < l.i → height l.knots k ≡ height l.initial.knots k;
  rest : (k : ℕ) → l.i ≤ k → knot l.knots k ≡ knot l.initial.knots k;
}
