use Rattle.test_tiny.proofs.Common.{◌≡◌, ◌+◌, ◌≤◌, take, length}
use Rattle.test_tiny.proofs.parts.list_of.Given as goal

abbrev pub invariant-loop-item : goal.invariant-loop-item
invariant-loop-item g l = record {
  so_far : l.list.items ≡ take l.item-index l.items;
  room : length l.items ≤ l.list.spare + l.item-index;
}
