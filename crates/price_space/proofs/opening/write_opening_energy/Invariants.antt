use Rattle.price_space.proofs.Common.{◌≡◌, ℕ, ◌<◌, length, int_at, opened}
use Rattle.price_space.proofs.opening.write_opening_energy.Given as goal

abbrev pub invariant-loop-k : goal.invariant-loop-k
invariant-loop-k l = record {
  same_length : length l.into.items ≡ length l.initial.into.items;
  opened_so_far : (j : ℕ) → j < l.k → int_at l.into.items j ≡ opened l.n (int_at l.start.items j);
  spare : l.into.spare ≡ l.initial.into.spare;
}
