use Rattle.ramp_step.proofs.Common.{◌≡◌, block_end, curve_term, AreRaisedSoFar}
use Rattle.ramp_step.proofs.curve.raise_curve.Given as goal

abbrev pub invariant-loop-block : goal.invariant-loop-block
invariant-loop-block l = record {
  raised : AreRaisedSoFar l.value l.blocks l.from l.block-index l.used l.done l.fn.knots l.knots;
  start : l.start ≡ block_end l.blocks l.from l.block-index;
  level : l.level ≡ curve_term l.value l.blocks l.from (block_end l.blocks l.from l.block-index);
}
