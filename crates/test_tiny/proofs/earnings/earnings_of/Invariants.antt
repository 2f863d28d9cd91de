use Rattle.test_tiny.proofs.Common.{◌≡◌, ◌*◌, pos, neg_ℤ, IsFrom, thermal_of, schedule_of, prices_of, sum_below, net_in}
use Rattle.test_tiny.proofs.earnings.earnings_of.Given as goal

abbrev pub invariant-loop-index : goal.invariant-loop-index
invariant-loop-index l = record {
  so_far : l.earned ≡ sum_below l.index (net_in (thermal_of l.unit) (prices_of l.prices) (schedule_of l.response));
  bound : IsFrom (neg_ℤ (pos (l.index * 4835703278458516698824704))) (pos (l.index * 4835703278458516698824704))
      l.earned;
}
