use Rattle.test_whole.proofs.Common.{◌≡◌, ◌*◌, drop, pos, neg_ℤ, ◌+ℤ◌, ◌≤ℤ◌, end_of}
use Rattle.test_whole.proofs.steps.end.Given as goal

abbrev pub invariant-loop-block : goal.invariant-loop-block
invariant-loop-block l = record {
  end : end_of l.place (drop l.block-index l.blocks) ≡ end_of l.fn.curve.at l.blocks;
  low : neg_ℤ (pos 1000) ≤ℤ l.place;
  high : l.place ≤ℤ (pos 1000 +ℤ pos (l.block-index * 1000));
}
