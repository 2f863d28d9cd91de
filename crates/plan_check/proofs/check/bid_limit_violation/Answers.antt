use Rattle.plan_check.proofs.Common.{sym, subst, IsBlockList, bid_of, items_in, item_of, map_item}
use Rattle.plan_check.proofs.check.bid_limit_violation.Goals as goal

limits : (c : goal.After-as_slice) → IsBlockList c.as_slice.result.now
limits c =
    subst IsBlockList (sym c.as_slice.ensures)
    (item_of IsBlockList (bid_of c.args.bid.now).blocks c.args.index (items_in c.get.result.now)
    c.args.bid.now.valid.blocks
    (map_item items_in c.args.bid.now.blocks.items c.args.index c.get.result.now c.get.ensures.item))

pub total_block_width-width-requires-clause-count : goal.total_block_width-width-requires-clause-count
total_block_width-width-requires-clause-count c = (limits c).count

pub total_block_width-width-requires-clause-blocks : goal.total_block_width-width-requires-clause-blocks
total_block_width-width-requires-clause-blocks c = (limits c).blocks
