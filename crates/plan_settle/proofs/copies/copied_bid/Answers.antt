use Rattle.plan_settle.proofs.Common.{◌<◌, [], List, length, ap, ◌∙◌, arith, length-map, items_in}
use Rattle.uc_model.specs.declared.units.Block.{Block}
use Rattle.plan_settle.proofs.Lemmas.{mapped_at}
use Rattle.plan_settle.proofs.copies.copied_bid.Goals as goal

pub copied_list-requires : goal.copied_list-requires
copied_list-requires c =
    let bs = c.args.bid.now.blocks.items in
    let k = c.loop-index.index in
    let lt : c.loop-index.index < length c.args.bid.now.blocks.items = omega arith in
    let mapped = length-map c.args.bid.now.blocks.items items_in in
    let few = (c.args.bid.now.valid.blocks k [] (omega (arith, lt, mapped))).count in
    let item = ap (λ (b : List Block). length b)
    (mapped_at items_in bs k c.get.result.now [] lt ∙ ap items_in c.get.ensures.value) in
    omega (arith, few, item)
