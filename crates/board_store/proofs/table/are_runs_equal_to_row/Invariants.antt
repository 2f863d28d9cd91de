use Rattle.board_store.proofs.Common.{◌≡◌, ◌-◌, ◌≤◌, ◌↔◌, length, from_run, row_at}
use Rattle.board_store.proofs.Lemmas.{IsThere}
use Rattle.board_store.proofs.table.are_runs_equal_to_row.Given as goal

abbrev pub invariant-loop-seen : goal.invariant-loop-seen
invariant-loop-seen g l = record {
  whole : length l.row - l.seen ≤ length (from_run l.lengths l.values l.at);
  told : (row_at (length l.row) l.lengths l.values l.start ≡ l.row)
      ↔ IsThere l.row l.seen (from_run l.lengths l.values l.at);
}

abbrev pub decreases-loop-seen : goal.decreases-loop-seen
decreases-loop-seen g l = length l.lengths - l.at
