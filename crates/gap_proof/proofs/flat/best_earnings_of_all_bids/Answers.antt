use Rattle.gap_proof.proofs.Common.{rules, ◌≡◌, ◌+◌, ◌*◌, pos, ◌+ℤ◌, List, [], map, take, length, ap, sym, ◌∙◌}
use Rattle.gap_proof.proofs.Common.{subst, FitsSigned, arith, ints, to_z-of_z, w64, w128, IsFrom, IsWithin}
use Rattle.gap_proof.proofs.Common.{fits_within, get_or_from_slice_get, total, Block, NamedBidUnit, IsBidUnit}
use Rattle.gap_proof.proofs.Common.{IsBlockList, best_bought, blocks_at, market_of}
use Rattle.std.specs.Int.{cast_signed}
use Rattle.std.proofs.lemmas.List.{length-map, take_all}
use Rattle.plain_lists.proofs.ListLaws.{item_of, map_item}
use Rattle.uc_model.specs.PlainUnits.{bid_of, named_bid_of}
use Rattle.plain_lists.specs.Reserved.{items_in}
use Rattle.gap_proof.proofs.MixtureSumLaws.{total_more}
use Rattle.gap_proof.proofs.flat.best_earnings_of_all_bids.Goals as goal

pub get-requires-in-loop-number : goal.get-requires-in-loop-number
get-requires-in-loop-number c =
    let m = market_of c.args.case.now in
    let at = map_item named_bid_of c.args.case.now.bids.items c.loop-number.number c.get.result.now
    c.get.ensures.item in
    let limits = item_of (λ (n : NamedBidUnit). IsBidUnit n.unit × (length n.unit.blocks ≡ c.args.case.now.periods))
    m.bids c.loop-number.number _ c.args.case.now.valid.bids at in
    let long = limits.1 in
    let mapped = length-map c.get.result.now.bid.blocks.items items_in in
    let lt = c.requires.index in
    omega (arith, long, mapped, lt)

pub best_earnings_of_blocks-requires-clause-blocks : goal.best_earnings_of_blocks-requires-clause-blocks
best_earnings_of_blocks-requires-clause-blocks c =
    subst IsBlockList (sym c.as_slice-blocks.ensures)
    (item_of IsBlockList (bid_of c.get.result.now.bid).blocks c.args.index (items_in c.get-in-loop-number.result.now)
    c.get.result.now.bid.valid.blocks
    (map_item items_in c.get.result.now.bid.blocks.items c.args.index c.get-in-loop-number.result.now
    c.get-in-loop-number.ensures.item))

pub loop-number-preserved : goal.loop-number-preserved
loop-number-preserved c =
    let m = market_of c.args.case.now in
    let k = c.args.index in
    let i = c.loop-number.number in
    let q = c.ranges.price in
    let s : FitsSigned w64 c.best_earnings_of_blocks.result = search rules in
    let f : FitsSigned w128 c.from-sum.result = search rules in
    let bid = named_bid_of c.get.result.now in
    let at = map_item named_bid_of c.args.case.now.bids.items i c.get.result.now c.get.ensures.item in
    let more = total_more (λ (n : NamedBidUnit). best_bought (blocks_at n.unit k) c.args.price) m.bids i bid at in
    let found = get_or_from_slice_get bid.unit.blocks k (items_in c.get-in-loop-number.result.now) []
    (map_item items_in c.get.result.now.bid.blocks.items k c.get-in-loop-number.result.now
    c.get-in-loop-number.ensures.item) in
    let blocks : c.as_slice-blocks.result.now ≡ blocks_at bid.unit k = c.as_slice-blocks.ensures ∙ sym found in
    let same = ap (λ (l : List Block). best_bought l c.args.price) blocks in
    let so_far : cast_signed w128 c.loop-number.sum-bits ≡ total
    (map (λ (n : NamedBidUnit). best_bought (blocks_at n.unit k) c.args.price) (take i m.bids)) =
    simp to_z-of_z at c.loop-number.invariant.is in
    let value = simp to_z-of_z at c.best_earnings_of_blocks.ensures.value in
    let from = simp to_z-of_z at c.from-sum.ensures in
    let a = c.loop-number.invariant.limit.at_least in
    let b = c.loop-number.invariant.limit.at_most in
    let x = c.best_earnings_of_blocks.ensures.limit.at_least in
    let y = c.best_earnings_of_blocks.ensures.limit.at_most in
    let few = c.args.case.now.valid.bid_count in
    let mapped = length-map c.args.case.now.bids.items named_bid_of in
    let test = c.loop-number-test.true in
    let end = c.len-number-end.ensures in
    let sum : cast_signed w128 c.loop-number.sum-bits +ℤ c.from-sum.result ≡ total
    (map (λ (n : NamedBidUnit). best_bought (blocks_at n.unit k) c.args.price) (take (i + 1) m.bids)) =
    omega (arith, ints, more, so_far, value, same, from) in
    let limit : IsFrom (pos 0) (pos (20000000000000000 * (i + 1)))
    (cast_signed w128 c.loop-number.sum-bits +ℤ c.from-sum.result) =
    record { at_least = omega (arith, ints, a, x, from); at_most = omega (arith, ints, b, y, from) } in
    let l = limit.at_least in
    let h = limit.at_most in
    let within : IsWithin 100000000000000000000 (cast_signed w128 c.loop-number.sum-bits +ℤ c.from-sum.result) =
    record { at_least = omega (arith, ints, l); at_most = omega (arith, ints, h, few, mapped, test, end) } in
    let fits = fits_within w128 100000000000000000000 (cast_signed w128 c.loop-number.sum-bits +ℤ c.from-sum.result)
    within (omega arith) in
    record { is = simp to_z-of_z sum; limit = simp to_z-of_z limit }

pub returns-clause-value : goal.returns-clause-value
returns-clause-value c =
    let m = market_of c.args.case.now in
    let k = c.args.index in
    let i = c.loop-number.number in
    let q = c.ranges.price in
    let mapped = length-map c.args.case.now.bids.items named_bid_of in
    let test = c.loop-number-test.false in
    let end = c.len-number-end.ensures in
    let so_far : cast_signed w128 c.loop-number.sum-bits ≡ total
    (map (λ (n : NamedBidUnit). best_bought (blocks_at n.unit k) c.args.price) (take i m.bids)) =
    simp to_z-of_z at c.loop-number.invariant.is in
    let whole = ap (λ l. total (map (λ (n : NamedBidUnit). best_bought (blocks_at n.unit k) c.args.price) l))
    (take_all i m.bids (omega (arith, mapped, test, end))) in
    so_far ∙ whole
