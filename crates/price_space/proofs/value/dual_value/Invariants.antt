use Rattle.std.proofs.Common.{◌≡◌, ◌*◌, pos, neg_ℤ, ◌+ℤ◌, ◌*ℤ◌}
use Rattle.plain_lists.specs.Ranges.{IsFrom}
use Rattle.plain_lists.specs.Sums.{int_at, sum_below}
use Rattle.price_space.proofs.value.dual_value.Given as goal

abbrev pub invariant-loop-k : goal.invariant-loop-k
invariant-loop-k l = record {
  so_far : l.total ≡ sum_below l.k
      (λ k. (int_at l.prices.energy.items k *ℤ int_at l.case.demand.items k)
      +ℤ (int_at l.prices.reserve.items k *ℤ int_at l.case.reserves.items k));
  bound : IsFrom (neg_ℤ (pos (l.k * 20000000000000000))) (pos (l.k * 20000000000000000)) l.total;
}
