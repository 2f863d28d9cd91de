-- The lemmas that answers cite, passed on from one place.
pub use Rattle.board_store.proofs.RowRuns.{IsAdding, adding_none, adding_run, adding_done, adding_next, adding_last}
pub use Rattle.board_store.proofs.RowRuns.{taken, still_whole, IsThere, told_no, told_yes, later_whole, laid_first}
pub use Rattle.board_store.proofs.RowRuns.{AreOnes, ones_more, ones_row, some_cell, at_there, at_added, seen_whole}
pub use Rattle.board_store.proofs.RowRuns.{seen_row, run_here, all_more}
pub use Rattle.board_store.proofs.Tables.{table_more, runs_few, lengths_free, values_free, row_whole, table_blank}
pub use Rattle.board_store.proofs.Tables.{rows_blank, long_is, left_some, inside, row_read, left_less, rows_more}
pub use Rattle.board_store.proofs.Tables.{blank_first}
pub use Rattle.board_store.proofs.Answers.{counted, least_same}
pub use Rattle.board_store.proofs.RowBounds.{rows_are_within}
pub use Rattle.board_store.proofs.RowLaws.{answers_fit_now, rows_are_made, has_row, stays_finished, run_fits}
pub use Rattle.board_store.proofs.SameTask.{difference_at, difference_none}
pub use Rattle.board_store.proofs.UnitBounds.{model_laws}
pub use Rattle.board_store.proofs.Alike.{numbers_of, same_cons, same_under, count_in, count_none, count_more}
pub use Rattle.board_store.proofs.Alike.{same_periods_alike}
pub use Rattle.board_store.proofs.AsOne.{same_lists, one_item, same_items}
