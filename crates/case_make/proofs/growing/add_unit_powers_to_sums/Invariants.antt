use Rattle.case_make.proofs.Common.{◌≡◌, ℕ, ◌<◌, ◌≤◌, pos, ◌+ℤ◌, length, slice_index, int_at}
use Rattle.case_make.proofs.growing.add_unit_powers_to_sums.Given as goal

abbrev pub invariant-loop-k : goal.invariant-loop-k
invariant-loop-k l = record {
  count : length l.sums.items ≡ length l.fn.sums.items;
  done : (j : ℕ) → j < l.k → int_at l.sums.items j ≡ int_at l.fn.sums.items j +ℤ pos (slice_index l.powers.items j);
  rest : (j : ℕ) → l.k ≤ j → int_at l.sums.items j ≡ int_at l.fn.sums.items j;
}
