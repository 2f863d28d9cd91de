use Rattle.plan_settle.proofs.Common.{◌≡◌, ◌+◌, ◌≤◌, length, map, take, items_in}
use Rattle.plan_settle.proofs.copies.copied_bid.Given as goal

abbrev pub invariant-loop-index : goal.invariant-loop-index
invariant-loop-index l = record {
  copied : map items_in l.blocks.items ≡ map items_in (take l.index l.bid.blocks.items);
  room : length l.bid.blocks.items ≤ l.index + l.blocks.spare;
}
