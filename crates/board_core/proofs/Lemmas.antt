-- The lemmas that answers cite, passed on from one place.
pub use Rattle.board_core.proofs.Advances.{moved_over, full_is, not_full, rows_next, round_more, full_to}
pub use Rattle.board_core.proofs.Bests.{first_of_taken, kept_first, same_values}
pub use Rattle.board_core.proofs.Entries.{content, entries_more, events_more}
pub use Rattle.board_core.proofs.FlatLists.{is_task, one_more, differ_here, own_ends, given_ends, no_more, numbers_few}
pub use Rattle.board_core.proofs.FlatLists.{no_difference}
pub use Rattle.board_core.proofs.Fronts.{closed_is, opened_is, rows_count, prices_count, kept_inside, kept_is, rows_few}
pub use Rattle.board_core.proofs.Halts.{one_less, stopped, not_yet, halted_lists, halt_place, halt_room}
pub use Rattle.board_core.proofs.Inner.{setup_in, events_in, lists_in}
pub use Rattle.board_core.proofs.LedgerSteps.{IsWritten, due_says, opens_it, is_early, is_over, with_one, with_none}
pub use Rattle.board_core.proofs.LedgerSteps.{opened_fronts, opened_sums, opened_ledger, closed_fronts, closed_sums}
pub use Rattle.board_core.proofs.LedgerSteps.{closed_ledger}
pub use Rattle.board_core.proofs.Lists.{place_before, partner}
pub use Rattle.board_core.proofs.Opened.{opened, IsOpened, same_ledger}
pub use Rattle.board_core.proofs.Refused.{refusal_is, refused_says, differing, not_differing, unopened, no_unit}
pub use Rattle.board_core.proofs.Refused.{past_tests}
pub use Rattle.board_core.proofs.Rows.{set_mapped, at_mapped, added, unraised}
pub use Rattle.board_core.proofs.Takes.{taken_here, supply_small, reserve_small, units_few, entry_is, IsTakenHere}
pub use Rattle.board_core.proofs.Numbers.{open_within, open_place, open_few, caller_few}
