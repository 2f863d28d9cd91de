-- The names that the proofs of this crate take from its specs and from other crates, passed on from one place.
pub use Rattle.std.proofs.Common.{◌≡◌, ℕ, true, false, nat_le, ◌&&◌, ◌⊎◌, List, [], ◌∷◌, ◌++◌, length, Option, Some}
pub use Rattle.std.proofs.Common.{None, Result, Ok, Err, refl, sym, ap, ◌∙◌, subst, arith, append_assoc, inl, inr, suc}
pub use Rattle.std.proofs.Common.{◌+◌, ◌-◌, ◌<◌, ◌≤◌, cond, ◌==◌, zero, ◌*◌, ◌/◌, ◌%◌, nat_lt, ◌||◌, codes}
pub use Rattle.std.proofs.Common.{length-append, ◌≢◌, ℤ, pos, negsuc, get_or, Bool, replicate, rules, drop, eq-eqb, map}
pub use Rattle.std.proofs.Common.{take, w64, min}
pub use Rattle.std.proofs.Math.ListN.{drop_of_length-le}
pub use Rattle.std.proofs.lemmas.Bool.{cases_lt, false_from_ne_true, ne_eqb, eqb-true}
pub use Rattle.std.proofs.lemmas.Bool.Decides.{nat_tests, eqb_tells}
pub use Rattle.std.proofs.lemmas.Float.{T_from_true}
pub use Rattle.std.proofs.lemmas.Int.{ints, to_z-of_z}
pub use Rattle.std.proofs.lemmas.List.{append-nil, nil_from_length, drop_more, take_at, map_push}
pub use Rattle.std.proofs.lemmas.List.Elements.{All-from_recursion}
pub use Rattle.std.proofs.lemmas.Result.{err_from_is_err_and}
pub use Rattle.std.specs.Char.{is_ascii_digit}
pub use Rattle.std.specs.Int.{w128}
pub use Rattle.std.specs.Int.Signed.{le_z_yes}
pub use Rattle.std.specs.List.{AllByRecursion, flat_map}
pub use Rattle.std.specs.Prelude.{IsUtf8, int_le, neg_ℤ, ◌≤ℤ◌, ◌<ℤ◌}
pub use Rattle.report_form.specs.Numerals.{digits_up_to, signed_numeral}
unfoldable pub use Rattle.report_form.specs.Numerals.{numeral}
pub use Rattle.report_form.specs.Parts.{hex_of, stands_as_is, spaced_counts, spaced_flags}
unfoldable pub use Rattle.report_form.specs.Parts.{escaped}
pub use Rattle.report_form.specs.ReportText.{rows_text, UnitLine, renewable_text, bid_text, Report}
unfoldable pub use Rattle.report_form.specs.ReportText.{
  report_text,
  head_text,
  row_text,
  chosen_text,
  foot_text,
  thermal_text,
  flat_text,
}
pub use Rattle.report_form.specs.declared.report.Head.{Head}
pub use Rattle.report_read.specs.Bounds.{IsList, IsAmount, IsEnergyPrice, IsReservePrice, IsProposal, IsCount, IsNumber}
pub use Rattle.report_read.specs.Bounds.{IsTold, IsThermalLine, IsOtherLine, IsReport, AreInOrder}
pub use Rattle.report_read.specs.Faults.{IsLine, AreLines, line_feeds, IsFault, Begins}
pub use Rattle.report_read.specs.LineForms.{amount_at, value_line, number_at, in_order, owed_at, Title, title_line}
unfoldable pub use Rattle.report_read.specs.LineForms.{ended, after, just, both, opening_at}
pub use Rattle.report_read.specs.Lines.{Read, or_left, line, then_lines, making, Fails, joined, count_line, amount_line}
pub use Rattle.report_read.specs.Lines.{made_head, list_line, price_at, total_at, made_row, made_foot, power_at}
pub use Rattle.report_read.specs.Lines.{made_response, always_on, response_at, made_unit, made_report, if_no_more}
unfoldable pub use Rattle.report_read.specs.Lines.{
  row_at,
  rows_at,
  unit_at,
  units_at,
  head_at,
  foot_at,
  thermal_at,
  other_at,
  report_at,
  all_of,
}
pub use Rattle.report_read.specs.Plain.{Told, rank, same_kind, lines_of, told_of, report_of}
pub use Rattle.report_read.specs.Words.{Found, ◌>>=◌, hex_value, two_digits, text_only, count_between, negative}
pub use Rattle.report_read.specs.Words.{integer_between, of_kind, or_else, behind as behind_spec}
pub use Rattle.report_read.specs.Words.{digits_from as digits_spec}
unfoldable pub use Rattle.report_read.specs.Words.{
  behind,
  items_at,
  escaped_at,
  closed_within,
  control_at,
  backslashed_at,
  name_at,
  numeral_at,
  count_at,
  signed_at,
  integer_at,
  digits_from,
  spaced,
  flag_at,
  kind_at,
}
pub use Rattle.report_read.specs.declared.head.Foot.{Foot}
pub use Rattle.report_read.specs.declared.numbers.TheConstants.{MOST}
pub use Rattle.plain_lists.specs.Ranges.{IsFrom}
pub use Rattle.uc_model.specs.Limits.{ArePrices}
pub use Rattle.uc_model.specs.PlainCases.{proposal_of}
pub use Rattle.uc_model.specs.PriceRule.{Proposal}
pub use Rattle.uc_model.specs.declared.kinds.Kind.{Kind}
pub use Rattle.plain_lists.specs.declared.limits.TheConstants.{MOST_UNITS, MOST_PROPOSALS}
pub use Rattle.uc_model.specs.declared.limits.TheConstants.{MOST_PERIODS, PRICE_LIMIT}
