use Rattle.gap_proof.proofs.Common.{◌≡◌, ℕ, ◌<◌, pos, length, int_at}
use Rattle.gap_proof.proofs.plane_sums.clear_slopes.Given as goal

abbrev pub invariant-loop-index : goal.invariant-loop-index
invariant-loop-index l = record {
  same_length : length l.slopes.items ≡ length l.initial.slopes.items;
  zeros : (j : ℕ) → j < l.index → int_at l.slopes.items j ≡ pos 0;
  spare : l.slopes.spare ≡ l.initial.slopes.spare;
}
