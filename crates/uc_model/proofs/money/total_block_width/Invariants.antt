use Rattle.uc_model.proofs.Common.{◌≡◌, ◌*◌, pos, ◌≤ℤ◌, take, width_of}
use Rattle.uc_model.proofs.money.total_block_width.Given as goal

abbrev pub invariant-loop-block : goal.invariant-loop-block
invariant-loop-block l = record {
  is : l.sum ≡ width_of (take l.block-index l.blocks);
  least : pos 0 ≤ℤ l.sum;
  most : l.sum ≤ℤ pos (1000000000 * l.block-index);
}
