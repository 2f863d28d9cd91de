use Rattle.audit_check.proofs.Common.{◌≡◌, ℕ, ◌<◌, ◌≤◌, ◌+ℤ◌, length, int_at}
use Rattle.audit_check.proofs.sums.add_amounts_by_period.Given as goal

abbrev pub invariant-loop-k : goal.invariant-loop-k
invariant-loop-k l = record {
  same_length : length l.totals.items ≡ length l.initial.totals.items;
  added : (j : ℕ) → j < l.k → int_at l.totals.items j ≡ int_at l.initial.totals.items j +ℤ int_at l.amounts.items j;
  waiting : (j : ℕ) → l.k ≤ j → int_at l.totals.items j ≡ int_at l.initial.totals.items j;
}
