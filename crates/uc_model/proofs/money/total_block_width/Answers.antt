use Rattle.uc_model.proofs.Common.{pos, get_or, take, arith, ap, ◌∙◌, ints, take_more, Block, width_of}
use Rattle.uc_model.proofs.Lemmas.{width-append}
use Rattle.uc_model.proofs.money.total_block_width.Goals as goal

pub loop-block-preserved : goal.loop-block-preserved
loop-block-preserved c =
    let i = c.loop-block.block-index in
    let none : Block = record { width = pos 0; price = pos 0 } in
    let b = get_or c.args.blocks.now i none in
    let known = c.loop-block.invariant in
    let is = known.is in
    let least = known.least in
    let most = known.most in
    let limits = (c.requires.blocks i none c.loop-block-test.true).width in
    let low = limits.at_least in
    let high = limits.at_most in
    let count = c.requires.count in
    let test = c.loop-block-test.true in
    let next = ap width_of (take_more c.args.blocks.now i none c.loop-block-test.true) ∙
    width-append (take i c.args.blocks.now) b in
    record {
      is = omega (arith, ints, is, least, most, low, high, next, count, test);
      least = omega (arith, ints, least, most, low, high, count, test);
      most = omega (arith, ints, least, most, low, high, count, test);
    }
