-- The lemmas that answers cite, passed on from one place.
pub use Rattle.task_deal.proofs.Backs.{over, over_all, under}
pub use Rattle.task_deal.proofs.Draining.{books_on, books_same, idle_books, may_run}
pub use Rattle.task_deal.proofs.Gaining.{Deque, popped, stolen, took, fetched, gains_on, gains_none}
pub use Rattle.task_deal.proofs.Ledgers.{room_own, ledger_own, room_source, ledger_source, check_stands, comes_out}
pub use Rattle.task_deal.proofs.Ledgers.{even_sum}
pub use Rattle.task_deal.proofs.Moves.{begins, forks, merges, takes_owner, finds, takes, pushes, admits, drains, fits}
pub use Rattle.task_deal.proofs.Once.{each_once, sums_are_dealt, numbers_are_dealt, values_dealt}
pub use Rattle.task_deal.proofs.Opening.{Filling, filling, filled, purse_full, opened_on, fork_stands, fork_part}
pub use Rattle.task_deal.proofs.Places.{all_last, all_rest, all_push, each_down, each_up, each_low, index_else}
pub use Rattle.task_deal.proofs.Places.{no_items}
pub use Rattle.task_deal.proofs.Running.{runs_none, runs_one}
pub use Rattle.task_deal.proofs.Seating.{same_self, same_on, gains_self, found_on, seated, same_part, took_seat}
pub use Rattle.task_deal.proofs.Seating.{popped_seat, fetched_seat, same_own}
pub use Rattle.task_deal.proofs.Settling.{returning, last_pass, returned, Returning, TakenBack, books_set, back_books}
pub use Rattle.task_deal.proofs.Settling.{back_stands, its_pass, its_one}
pub use Rattle.task_deal.proofs.Sums.{sum_of-append, sum_of_push}
