use Rattle.plan_check.proofs.Common.{rules, suc, List, [], sym, ap, ◌∙◌, subst, w64, FitsSigned, arith, ints, to_z-of_z}
use Rattle.plan_check.proofs.Common.{get_or_from_slice_get, Block, worth_of, IsBlockList, bid_of, schedule_of, items_in}
use Rattle.plan_check.proofs.Common.{power_in, sum_more, item_of, map_item, worth_at}
use Rattle.plan_check.proofs.costs.worth_of_bid.Goals as goal

pub worth_of_bought_power-requires-clause-blocks : goal.worth_of_bought_power-requires-clause-blocks
worth_of_bought_power-requires-clause-blocks c =
    subst IsBlockList (sym c.as_slice-blocks.ensures)
    (item_of IsBlockList (bid_of c.args.bid.now).blocks c.loop-index.index (items_in c.get.result.now)
    c.args.bid.now.valid.blocks
    (map_item items_in c.args.bid.now.blocks.items c.loop-index.index c.get.result.now c.get.ensures.item))

pub loop-index-preserved : goal.loop-index-preserved
loop-index-preserved c =
    let b = bid_of c.args.bid.now in
    let s = schedule_of c.args.response.now in
    let k = c.loop-index.index in
    let f : FitsSigned w64 c.power_at.result = search rules in
    let blocks = get_or_from_slice_get b.blocks k (items_in c.get.result.now) []
    (map_item items_in c.args.bid.now.blocks.items k c.get.result.now c.get.ensures.item) in
    let power = to_z-of_z w64 c.power_at.result f ∙ c.power_at.ensures.value in
    let value = c.worth_of_bought_power.ensures.value ∙ ap (worth_of c.as_slice-blocks.result.now) power ∙
    ap (λ (l : List Block). worth_of l (power_in s (suc k))) (c.as_slice-blocks.ensures ∙ sym blocks) in
    let more = sum_more k (worth_at b s) in
    record {
      is = omega (arith, ints, value, more);
      limit = record { at_least = omega (arith, ints); at_most = omega (arith, ints) };
    }
