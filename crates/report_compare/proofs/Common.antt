-- The names that the proofs of this crate take from its specs and from other crates, passed on from one place.
pub use Rattle.std.proofs.Common.{◌≡◌, ℕ, ◌+◌, Bool, true, false, Result, Ok, Err, List, [], ◌∷◌, ◌++◌, length, refl}
pub use Rattle.std.proofs.Common.{sym, ap, ◌∙◌, arith, append_assoc, length-append, inl, inr, ℤ, codes, subst, cond}
pub use Rattle.std.proofs.Common.{zero, suc, ◌-◌, ◌/◌, ◌%◌, ◌<◌, ◌≤◌, pos, negsuc, not, ◌&&◌, nat_lt, Some, map, ◌⊎◌}
pub use Rattle.std.proofs.Common.{drop, rules, lit<, ◌-ℤ◌, ◌*◌}
pub use Rattle.std.proofs.lemmas.Bool.Decides.{eqb_tells, nat_tests, Decides-int_eq}
pub use Rattle.std.proofs.lemmas.Int.{to_z-of_z, ints}
pub use Rattle.std.proofs.lemmas.List.{append_cancel_left, append_cancel_right, get_or_default, same_lists, length-map}
pub use Rattle.std.proofs.lemmas.List.Elements.{All-nil, All-cons}
pub use Rattle.std.proofs.lemmas.List.FromFn.{length-map-range_with_len, get_or-map-range_with_len}
pub use Rattle.std.proofs.lemmas.Option.{none-some, slice_get_read, slice_get_within, get_or_from_slice_get}
pub use Rattle.std.proofs.lemmas.Result.{err_from_is_err_and}
pub use Rattle.std.proofs.lemmas.Slice.Eq.{slice_eq-Decides}
pub use Rattle.std.specs.Bool.{Decides}
pub use Rattle.std.specs.Int.{w128}
pub use Rattle.std.specs.List.{concat, AllByRecursion, flat_map, list_all, AllZip, range_with_len, All}
pub use Rattle.std.specs.Prelude.{min, IfOk, IfErr, ◌==◌, nat_le, slice_get, slice_index_or, FitsSigned}
pub use Rattle.unit_program.specs.Tops.{IsBenchOver}
pub use Rattle.right_report.specs.Laws.{OneRun, OneRightReport, RightReportHasForm}
pub use Rattle.right_report.specs.RightReport.{IsRightReport}
pub use Rattle.report_compare.specs.Compared.{Differ, DifferBehind, Compares, wrong_from, Judged, AreJudged}
pub use Rattle.report_compare.specs.Heads.{right_opening, right_head}
pub use Rattle.report_compare.specs.ReportLines.{count_line, amount_line, opening_lines, number_line, later_lines}
pub use Rattle.report_compare.specs.ReportLines.{report_lines, line, kind_word, row_lines, rows_lines, title_line}
pub use Rattle.report_compare.specs.ReportLines.{response_lines, unit_lines, head_lines, foot_lines, told_lines}
pub use Rattle.report_compare.specs.RightLines.{Title, titles_of, titles, Answers, idle, line_at, told_from, right_of}
pub use Rattle.report_compare.specs.RightLines.{answers_of}
unfoldable pub use Rattle.report_compare.specs.RightLines.{whole_lines}
pub use Rattle.report_compare.specs.declared.wrong.WrongLine.{WrongLine}
pub use Rattle.report_form.specs.Laws.{TextDeterminesReport, IsFlatLine, HasForm}
pub use Rattle.report_form.specs.Numerals.{digits_up_to, signed_numeral}
unfoldable pub use Rattle.report_form.specs.Numerals.{numeral}
pub use Rattle.report_form.specs.Parts.{spaced, spaced_counts, spaced_flags, flag_text, quoted, closed, hex_of}
pub use Rattle.report_form.specs.Parts.{stands_as_is}
unfoldable pub use Rattle.report_form.specs.Parts.{escaped}
pub use Rattle.report_form.specs.ReportText.{Report, UnitLine, rows_text, renewable_text, bid_text}
unfoldable pub use Rattle.report_form.specs.ReportText.{
  chosen_text,
  head_text,
  row_text,
  thermal_text,
  report_text,
  flat_text,
  foot_text,
}
pub use Rattle.report_read.specs.Bounds.{AreInOrder, IsOtherLine, IsReport}
pub use Rattle.report_read.specs.Differences.{DiffersAt}
pub use Rattle.report_read.specs.Faults.{IsLine, AreLines, line_feeds}
pub use Rattle.report_read.specs.Plain.{Told, rank, same_kind, lines_of, told_of}
unfoldable pub use Rattle.report_read.specs.Plain.{report_of}
pub use Rattle.plain_lists.proofs.SignedLaws.{wider, fits_within}
pub use Rattle.uc_model.specs.Data.{Schedule, Market, AnyUnit, Thermal, Flat, Bid, NamedThermalUnit, NamedRenewableUnit}
pub use Rattle.uc_model.specs.Data.{NamedBidUnit, units, unit_count, unit_names, kind_of, thermal_names}
pub use Rattle.uc_model.specs.Data.{renewable_names, bid_names}
pub use Rattle.uc_model.specs.Earnings.{IsTop}
pub use Rattle.uc_model.specs.Limits.{IsSum, IsWorth}
pub use Rattle.uc_model.specs.PlainCases.{market_of, unit_of, schedules_of, proposal_of}
pub use Rattle.uc_model.specs.PlainUnits.{schedule_of, prices_of}
pub use Rattle.uc_model.specs.PriceRule.{Proposal, chosen_number}
pub use Rattle.uc_model.specs.Runs.{IsRun, Fits, HasTotals}
pub use Rattle.uc_model.specs.Systems.{plan_cost, IsSettled, IsDualValue, total_power}
pub use Rattle.uc_model.specs.declared.kinds.Kind.{Kind}
