use Rattle.test_shapes.proofs.Common.{drop, curve_value}
use Rattle.test_shapes.proofs.Lemmas.{IsReached}
use Rattle.test_shapes.proofs.curves.curve_at.Given as goal

abbrev pub invariant-loop-block : goal.invariant-loop-block
invariant-loop-block l = IsReached (curve_value l.c l.x) (drop l.block-index l.blocks) l.reached.value l.reached.rest
