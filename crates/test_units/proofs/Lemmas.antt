-- The lemmas that answers cite, passed on from one place.
pub use Rattle.spell_run.proofs.FairLaws.{output_stored}
pub use Rattle.spell_run.proofs.FairLaws.{cost_is, alike_of}
pub use Rattle.spell_run.proofs.FrontierLaws.{frontier_more, small_frontier, answer_of_step, answer_at_end}
pub use Rattle.spell_run.proofs.FrontierLaws.{answer_alike}
pub use Rattle.spell_run.proofs.NoteLaws.{outside_more}
pub use Rattle.spell_run.proofs.OnLaws.{on_last, on_more}
pub use Rattle.test_units.proofs.BoundLaws.{can_line, can_curve, kink_of_none, can_kink}
pub use Rattle.test_units.proofs.ChoiceLaws.{least_stored, none_stored, found_out, kinked_out, chosen_stored}
pub use Rattle.test_units.proofs.SpellEntryLaws.{first_from, entry_other, entries_more, entries_by_last, entries_before}
pub use Rattle.test_units.proofs.SpellEntryLaws.{entries_past}
pub use Rattle.test_units.proofs.SameLaws.{range_of, small_same, stepped_same}
pub use Rattle.test_units.proofs.SpellFrameLaws.{stays, kept}
pub use Rattle.test_units.proofs.StartLaws.{frontier_begin, whole_of}
pub use Rattle.test_units.proofs.PeriodLaws.{outside_wider, IsPeriod, found_range, small_period, onward_last}
pub use Rattle.test_units.proofs.PeriodLaws.{none_last, within_last, way_chosen, frontier_next, onward_next}
pub use Rattle.test_units.proofs.SizeLaws.{never_both, next_fits, one_fits, rest_room, rest_enough, charge_of}
pub use Rattle.test_units.proofs.SizeLaws.{costs_fit, way_most, way_fits, one_more}
pub use Rattle.unit_program.proofs.BackLaws.{written_none}
pub use Rattle.unit_program.proofs.BestLaws.{best_of, least_of, cleared_idle, cleared_zero}
pub use Rattle.plain_lists.proofs.ListLaws.{if_some}
pub use Rattle.unit_table.proofs.RowLaws.{cost-is}
pub use Rattle.test_units.proofs.BackLaws.{written_answer}
pub use Rattle.test_units.proofs.BestLaws.{none_right}
pub use Rattle.test_units.proofs.EntryLaws.{IsLeastSoFar, one_more_way, least_of_all, none_of_all}
pub use Rattle.test_units.proofs.FillLaws.{filled_off, filled_on, filled_skip, filled_more}
pub use Rattle.test_units.proofs.FrameLaws.{still_left}
pub use Rattle.test_units.proofs.RowBackLaws.{back_off, row_back}
pub use Rattle.test_units.proofs.SpanLaws.{no_spell_after, none_long_enough, added_none, answers_at, spell_within}
pub use Rattle.test_units.proofs.UpdateLaws.{update_skip, update_more, update_all, IsUpdateSoFar}
