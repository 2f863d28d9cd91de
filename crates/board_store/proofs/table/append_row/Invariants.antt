use Rattle.board_store.proofs.Common.{◌+◌, ◌≤◌, length, take, replicate, vec_capacity}
use Rattle.board_store.proofs.Lemmas.{IsAdding}
use Rattle.board_store.proofs.table.append_row.Given as goal

abbrev pub invariant-loop-cell : goal.invariant-loop-cell
invariant-loop-cell g l = record {
  so_far : IsAdding l.initial.lengths.items l.initial.values.items l.lengths.items l.values.items
      (take l.cell-index l.row) (replicate l.count l.value);
  few : length l.lengths.items + l.count ≤ length l.initial.lengths.items + l.cell-index;
  lengths_room : vec_capacity l.initial.lengths ≤ vec_capacity l.lengths;
  values_room : vec_capacity l.initial.values ≤ vec_capacity l.values;
}
