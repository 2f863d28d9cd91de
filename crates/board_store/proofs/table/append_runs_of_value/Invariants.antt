use Rattle.board_store.proofs.Common.{◌+◌, ◌≤◌, length, replicate, vec_capacity}
use Rattle.board_store.proofs.Lemmas.{IsAdding}
use Rattle.board_store.proofs.table.append_runs_of_value.Given as goal

abbrev pub invariant-loop-left : goal.invariant-loop-left
invariant-loop-left g l = record {
  so_far : IsAdding l.initial.lengths.items l.initial.values.items l.lengths.items l.values.items
      (replicate l.count l.value) (replicate l.left l.value);
  few : length l.lengths.items + l.left ≤ length l.initial.lengths.items + l.count;
  lengths_room : vec_capacity l.initial.lengths ≤ vec_capacity l.lengths;
  values_room : vec_capacity l.initial.values ≤ vec_capacity l.values;
}

abbrev pub decreases-loop-left : goal.decreases-loop-left
decreases-loop-left g l = l.left
