use Rattle.test_shapes.proofs.Common.{rules, w64, FitsSigned}
use Rattle.test_shapes.proofs.Lemmas.{block_sum}
use Rattle.test_shapes.proofs.curves.within_block.Goals as goal

pub returns : goal.returns
returns c =
    let p : FitsSigned w64 c.args.block.now.price = search rules in
    let r : FitsSigned w64 c.args.reached.rest = search rules in
    block_sum c.args.reached.value c.args.block.now.price c.args.reached.rest p r c.requires.value c.requires.sum
