use Rattle.price_space.proofs.Common.{◌≡◌, ℕ, ◌<◌, pos, length, int_at}
use Rattle.price_space.proofs.opening.write_zeros.Given as goal

abbrev pub invariant-loop-k : goal.invariant-loop-k
invariant-loop-k l = record {
  same_length : length l.into.items ≡ length l.initial.into.items;
  zeros : (j : ℕ) → j < l.k → int_at l.into.items j ≡ pos 0;
  spare : l.into.spare ≡ l.initial.into.spare;
}
