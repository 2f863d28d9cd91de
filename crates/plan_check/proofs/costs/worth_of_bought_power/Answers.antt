use Rattle.plan_check.proofs.Common.{◌+◌, pos, List, drop, get_or, ap, arith, ints, drop_more, Block, worth_of}
use Rattle.plan_check.proofs.costs.worth_of_bought_power.Goals as goal

pub loop-block-preserved : goal.loop-block-preserved
loop-block-preserved c =
    let bs = c.args.blocks.now in
    let i = c.loop-block.block-index in
    let none : Block = record { width = pos 0; price = pos 0 } in
    let b = get_or bs i none in
    let rest = drop (i + 1) bs in
    let called = c.purchase_with_next_block-bought.ensures in
    let cut = ap (λ (l : List Block). worth_of l c.loop-block.bought.rest)
    (drop_more bs i none c.loop-block-test.true) in
    let left = ap (worth_of rest) called.rest in
    let worth_low = called.worth_limit.at_least in
    record {
      is = omega (arith, ints, cut, left);
      worth_limit = record { at_least = worth_low; at_most = omega (arith, ints) };
      rest_limit = called.rest_limit;
    }
