use Rattle.plan_settle.proofs.Common.{◌≡◌, ◌+◌, ◌≤◌, length, map, take, named_bid_of}
use Rattle.plan_settle.proofs.fix.copied_bids.Given as goal

abbrev pub invariant-loop-index : goal.invariant-loop-index
invariant-loop-index l = record {
  copied : map named_bid_of l.bids.items ≡ map named_bid_of (take l.index l.from.items);
  room : length l.from.items ≤ l.index + l.bids.spare;
}
