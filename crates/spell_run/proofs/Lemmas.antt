-- The lemmas that answers cite, passed on from one place.
pub use Rattle.spell_run.proofs.FairLaws.{cost_is, alike_of, range_moved, read_is, step_fair, slope_fits}
pub use Rattle.spell_run.proofs.FairLaws.{step_stored, most_chosen, output_stored}
pub use Rattle.spell_run.proofs.FrontierLaws.{frontier_more, small_frontier, answer_of_step, frontier_from, IsAnswer}
pub use Rattle.spell_run.proofs.FrontierLaws.{answer_at_end, answer_alike}
pub use Rattle.spell_run.proofs.LogLaws.{logged_kept, left_kept, more_logged, more_here, more_before, left_before}
pub use Rattle.spell_run.proofs.ReserveLaws.{reserve_is_a_kink, reserve_is_best}
pub use Rattle.spell_run.proofs.ChoiceLaws.{written_cast, best_stored, reserve_is, reserve_out}
pub use Rattle.spell_run.proofs.RestLaws.{IsRest, rest_first, rest_within, rest_entry, rest_before}
pub use Rattle.spell_run.proofs.NoteLaws.{IsWrittenFrom, end_stored, written_last, written_more, there_after}
pub use Rattle.spell_run.proofs.NoteLaws.{written_best, written_on, written_outside, cheapest_near, power_range}
pub use Rattle.spell_run.proofs.NoteLaws.{before_out, before_rise, before_under, chosen_noted}
