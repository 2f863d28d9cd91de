use Rattle.test_tiny.proofs.Common.{◌≡◌, ℕ, ◌<◌, pos, length, get_or, int_at}
use Rattle.test_tiny.proofs.parts.small_prices.Given as goal

abbrev pub invariant-loop-index : goal.invariant-loop-index
invariant-loop-index l = record {
  long : length l.small.energy.items ≡ length l.energy;
  energy : (k : ℕ) → k < l.index → int_at l.small.energy.items k ≡ int_at l.energy k;
  reserve : (k : ℕ) → k < l.index → int_at l.small.reserve.items k ≡ pos (get_or l.reserve k 0);
}
