use Rattle.test_whole.proofs.Common.{◌≡◌, ◌+◌, ◌≤◌, length, take}
use Rattle.test_whole.proofs.steps.curve_of.Given as goal

abbrev pub invariant-loop-block : goal.invariant-loop-block
invariant-loop-block l = record {
  items : l.list.items ≡ take l.block-index l.blocks;
  room : length l.blocks ≤ l.list.spare + l.block-index;
}
