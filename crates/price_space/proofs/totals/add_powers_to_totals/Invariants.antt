use Rattle.std.proofs.Common.{◌≡◌, ℕ, ◌<◌, ◌≤◌, ◌+ℤ◌, length, slice_index}
use Rattle.plain_lists.specs.Sums.{int_at}
use Rattle.uc_model.specs.Earnings.{amount_of}
use Rattle.price_space.proofs.totals.add_powers_to_totals.Given as goal

abbrev pub invariant-loop-k : goal.invariant-loop-k
invariant-loop-k l = record {
  same_length : length l.totals.items ≡ length l.initial.totals.items;
  counted : (j : ℕ) → j < l.k →
      int_at l.totals.items j ≡ int_at l.initial.totals.items j +ℤ amount_of l.flow (slice_index l.powers j);
  waiting : (j : ℕ) → l.k ≤ j → int_at l.totals.items j ≡ int_at l.initial.totals.items j;
  spare : l.totals.spare ≡ l.initial.totals.spare;
}
