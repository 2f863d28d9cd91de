use Rattle.plan_check.proofs.Common.{◌≡◌, ◌*◌, pos, IsFrom, bid_of, schedule_of, sum_below, worth_at}
use Rattle.plan_check.proofs.costs.worth_of_bid.Given as goal

abbrev pub invariant-loop-index : goal.invariant-loop-index
invariant-loop-index l = record {
  is : l.sum ≡ sum_below l.index (worth_at (bid_of l.bid) (schedule_of l.response));
  limit : IsFrom (pos 0) (pos (80000000000000000 * l.index)) l.sum;
}
