-- The lemmas that answers cite, passed on from one place.
pub use Rattle.report_compare.proofs.Comparing.{behind, stops, here_differ, judged_compare}
pub use Rattle.report_compare.proofs.Early.{number_wrong, beyond, no_more, opening_told, opening_fails}
pub use Rattle.report_compare.proofs.Judging.{amount_judged, amounts_judged, count_judged, choice_judged}
pub use Rattle.report_compare.proofs.UnitCompared.{titles_differ, unit_compared, units_step, units_stop, units_end}
pub use Rattle.report_compare.proofs.UnitCompared.{due_lines, thermal_response, other_response, rows_step, rows_stop}
pub use Rattle.report_compare.proofs.UnitCompared.{rows_end}
pub use Rattle.report_compare.proofs.UnitLaws.{read_item, zip_at, titles_length, titled}
pub use Rattle.report_compare.proofs.SomeLine.{some_difference}
pub use Rattle.report_compare.proofs.Verdicts.{first_wrong, not_right, row_made, row_long, mine_whole, right_whole}
pub use Rattle.report_compare.proofs.Verdicts.{compared_as, number_behind, sum_is_worth, all_right, IsMade, wrong_right}
