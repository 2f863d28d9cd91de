use Rattle.board_store.proofs.Common.{◌≡◌, ◌+◌, ◌++◌, replicate}
use Rattle.board_store.proofs.table.push_copies_of_value.Given as goal

abbrev pub invariant-loop : goal.invariant-loop
invariant-loop g l = record {
  so_far : l.into.items ≡ l.initial.into.items ++ replicate l.counter l.value;
  room : l.into.spare + l.counter ≡ l.initial.into.spare;
}
