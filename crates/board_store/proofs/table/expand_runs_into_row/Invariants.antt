use Rattle.board_store.proofs.Common.{◌≡◌, ◌-◌, ◌≤◌, ◌++◌, length, take, from_run, row_at}
use Rattle.board_store.proofs.table.expand_runs_into_row.Given as goal

abbrev pub invariant-loop-left : goal.invariant-loop-left
invariant-loop-left g l = record {
  whole : l.left ≤ length (from_run l.lengths l.values l.at);
  room : l.left ≤ l.into.spare;
  so_far : l.into.items ++ take l.left (from_run l.lengths l.values l.at)
      ≡ l.initial.into.items ++ row_at l.long l.lengths l.values l.start;
}

abbrev pub decreases-loop-left : goal.decreases-loop-left
decreases-loop-left g l = length l.lengths - l.at
