use Rattle.law_parts.proofs.Common.{Fits}
use Rattle.law_parts.proofs.Halts.{halts_nothing}
use Rattle.law_parts.proofs.Tallies.{events_are_at_most}
use Rattle.board_store.proofs.RowLaws.{right_rows, fits_is_best}
use Rattle.board_store.proofs.SameTask.{same_task}
use Rattle.board_store.proofs.Totals.{totals_run}
use Rattle.law_parts.proofs.board.histories_keep.Goals as goal

pub returns : goal.returns
returns c = record {
  rows = right_rows Fits fits_is_best;
  events = events_are_at_most;
  halts = halts_nothing;
  totals = totals_run;
  tasks = same_task;
}
