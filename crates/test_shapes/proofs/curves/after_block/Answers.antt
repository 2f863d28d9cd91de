use Rattle.test_shapes.proofs.Common.{rules, w64, FitsSigned}
use Rattle.test_shapes.proofs.Lemmas.{block_sum}
use Rattle.test_shapes.proofs.curves.after_block.Goals as goal

pub returns-clause-value : goal.returns-clause-value
returns-clause-value c =
    let p : FitsSigned w64 c.args.block.now.price = search rules in
    let w : FitsSigned w64 c.args.block.now.width = search rules in
    block_sum c.args.reached.value c.args.block.now.price c.args.block.now.width p w c.requires.value c.requires.sum
