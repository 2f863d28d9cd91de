use Rattle.audit_check.proofs.Common.{◌≡◌, ℕ, ◌<◌, pos, length, int_at}
use Rattle.audit_check.proofs.sums.write_zeros.Given as goal

abbrev pub invariant-loop-k : goal.invariant-loop-k
invariant-loop-k l = record {
  same_length : length l.totals.items ≡ length l.initial.totals.items;
  zeros : (j : ℕ) → j < l.k → int_at l.totals.items j ≡ pos 0;
}
