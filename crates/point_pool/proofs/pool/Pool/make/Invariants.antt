use Rattle.point_pool.proofs.Common.{◌≡◌, ℕ, ◌<◌, ◌≤◌, true, false, length, slot_at}
use Rattle.point_pool.proofs.pool.Pool.make.Given as goal

abbrev pub invariant-loop-number : goal.invariant-loop-number
invariant-loop-number l = record {
  long : length l.pool.slots.items ≡ l.cells;
  spare : l.pool.spare ≡ l.number;
  free : (k : ℕ) → k < l.number → (slot_at l.pool.slots.items k).in_use ≡ false;
  taken : (k : ℕ) → l.number ≤ k → k < l.cells → (slot_at l.pool.slots.items k).in_use ≡ true;
}
