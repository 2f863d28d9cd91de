use Rattle.convex_search.proofs.Common.{◌≡◌, length, arith, item_of, map_item, length-map, market_of}
use Rattle.uc_model.specs.Data.{NamedBidUnit}
use Rattle.uc_model.specs.Limits.{IsBidUnit}
use Rattle.uc_model.specs.PlainUnits.{named_bid_of}
use Rattle.plain_lists.specs.Reserved.{items_in}
use Rattle.convex_search.proofs.start.bid_blocks_in_period.Goals as goal

pub get-requires-2 : goal.get-requires-2
get-requires-2 c =
    let m = market_of c.args.case.now in
    let over = item_of (λ (n : NamedBidUnit). IsBidUnit n.unit × (length n.unit.blocks ≡ m.periods)) m.bids
    c.args.number
    (named_bid_of c.get.result.now) c.args.case.now.valid.bids
    (map_item named_bid_of c.args.case.now.bids.items c.args.number c.get.result.now c.get.ensures.item) in
    let long = over.1 in
    let same = length-map c.get.result.now.bid.blocks.items items_in in
    let lt = c.requires.index in
    omega (arith, long, same, lt)
