use Rattle.price_settle.proofs.Common.{◌≡◌, ◌*◌, pos, neg_ℤ, ◌*ℤ◌, slice_index, IsFrom, int_at, sum_below}
use Rattle.price_settle.proofs.earned.paid_for_amounts.Given as goal

abbrev pub invariant-loop-index : goal.invariant-loop-index
invariant-loop-index l = record {
  is : l.sum ≡ sum_below l.index (λ k. int_at l.prices.items k *ℤ pos (slice_index l.amounts.items k));
  limit : IsFrom (neg_ℤ (pos (2000000000000000000000 * l.index))) (pos (2000000000000000000000 * l.index)) l.sum;
}
