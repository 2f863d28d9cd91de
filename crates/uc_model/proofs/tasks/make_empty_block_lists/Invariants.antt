use Rattle.uc_model.proofs.Common.{◌≡◌, ◌+◌, ◌≤◌, [], map, replicate, All, items_in}
use Rattle.plain_lists.specs.Reserved.{room_of}
use Rattle.uc_model.proofs.tasks.make_empty_block_lists.Given as goal

abbrev pub invariant-loop : goal.invariant-loop
invariant-loop l = record {
  so_far : map items_in l.lists.items ≡ replicate l.counter [];
  spare : l.periods ≤ l.lists.spare + l.counter;
  room : All (λ bs. 8 ≤ room_of bs) l.lists.items;
}
