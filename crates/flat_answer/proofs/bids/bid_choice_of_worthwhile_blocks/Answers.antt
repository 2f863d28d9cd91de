use Rattle.flat_answer.proofs.Common.{pos, arith, ints, to_z-of_z}
use Rattle.flat_answer.proofs.Lemmas.{part_step, part_is_choice}
use Rattle.flat_answer.proofs.bids.bid_choice_of_worthwhile_blocks.Goals as goal

pub bid_choice_with_block_added-choice-requires-clause-power :
    goal.bid_choice_with_block_added-choice-requires-clause-power
bid_choice_with_block_added-choice-requires-clause-power c =
    let a = c.ranges.price in
    let part = simp to_z-of_z at c.loop-block.invariant in
    let step = part_step c.args.price c.args.blocks.now c.loop-block.block-index c.loop-block.choice.power
    c.loop-block.choice.earned (record { width = pos 0; price = pos 0 })
    c.requires.blocks c.requires.price.at_least c.loop-block-test.true part in
    simp to_z-of_z step.power_room

pub bid_choice_with_block_added-choice-requires-clause-earned :
    goal.bid_choice_with_block_added-choice-requires-clause-earned
bid_choice_with_block_added-choice-requires-clause-earned c =
    let a = c.ranges.price in
    let part = simp to_z-of_z at c.loop-block.invariant in
    let step = part_step c.args.price c.args.blocks.now c.loop-block.block-index c.loop-block.choice.power
    c.loop-block.choice.earned (record { width = pos 0; price = pos 0 })
    c.requires.blocks c.requires.price.at_least c.loop-block-test.true part in
    simp to_z-of_z step.earned_room

pub loop-block-init : goal.loop-block-init
loop-block-init c =
    record { power_is = omega (arith, ints); earned_is = omega (arith, ints); low = omega (arith, ints) }

pub loop-block-preserved : goal.loop-block-preserved
loop-block-preserved c =
    let a = c.ranges.price in
    let part = simp to_z-of_z at c.loop-block.invariant in
    let step = part_step c.args.price c.args.blocks.now c.loop-block.block-index c.loop-block.choice.power
    c.loop-block.choice.earned (record { width = pos 0; price = pos 0 })
    c.requires.blocks c.requires.price.at_least c.loop-block-test.true part in
    let power = simp to_z-of_z at c.bid_choice_with_block_added-choice.ensures.power in
    let earned = simp to_z-of_z at c.bid_choice_with_block_added-choice.ensures.earned in
    simp to_z-of_z (step.next c.bid_choice_with_block_added-choice.result.power
    c.bid_choice_with_block_added-choice.result.earned power
    earned)

pub returns : goal.returns
returns c =
    let a = c.ranges.price in
    let part = simp to_z-of_z at c.loop-block.invariant in
    part_is_choice c.args.blocks.now c.args.price c.loop-block.block-index c.loop-block.choice.power
    c.loop-block.choice.earned
    c.requires.blocks c.requires.price.at_least c.loop-block-test.false part
