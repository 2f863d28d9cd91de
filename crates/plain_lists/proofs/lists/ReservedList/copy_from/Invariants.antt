use Rattle.std.proofs.Common.{◌≡◌, take, vec_capacity}
use Rattle.plain_lists.proofs.lists.ReservedList.copy_from.Given as goal

abbrev pub invariant-loop-item : goal.invariant-loop-item
invariant-loop-item g l = record {
  so_far : l.self-inside.items.items ≡ take l.item-index l.from;
  capacity : vec_capacity l.self-inside.items ≡ vec_capacity l.initial.self-inside.items;
}
