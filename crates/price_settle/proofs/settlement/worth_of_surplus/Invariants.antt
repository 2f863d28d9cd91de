use Rattle.price_settle.proofs.Common.{◌≡◌, ◌*◌, pos, neg_ℤ, ◌*ℤ◌, IsFrom, market_of, schedules_of, int_at, sum_below}
use Rattle.price_settle.proofs.Common.{surplus_at}
use Rattle.price_settle.proofs.settlement.worth_of_surplus.Given as goal

abbrev pub invariant-loop-index : goal.invariant-loop-index
invariant-loop-index l = record {
  is : l.sum ≡ sum_below l.index
      (λ k. int_at l.prices.reserve.items k *ℤ surplus_at (market_of l.case) (schedules_of l.plan) k);
  limit : IsFrom (neg_ℤ (pos (2000000000000000000000 * l.index))) (pos (2000000000000000000000 * l.index)) l.sum;
}
