use Rattle.plan_check.proofs.Common.{◌≡◌, ◌+◌, ◌*◌, pos, neg_ℤ, length, drop, take, cost_of, IsFrom, market_of}
use Rattle.plan_check.proofs.Common.{schedules_of, sum_over, bid_units}
use Rattle.plan_check.proofs.costs.worth_of_bids.Given as goal

abbrev pub invariant-loop-index : goal.invariant-loop-index
invariant-loop-index l = record {
  is : l.sum ≡ neg_ℤ (sum_over cost_of (take l.index (bid_units (market_of l.case)))
      (drop (length (market_of l.case).thermal + length (market_of l.case).flat) (schedules_of l.plan)));
  limit : IsFrom (pos 0) (pos (20000000000000000000 * l.index)) l.sum;
}
