-- The names that the proofs of this crate take from its specs and from other crates, passed on from one place.
pub use Rattle.std.proofs.Common.{◌≡◌, ℕ, ◌+◌, ◌<◌, ◌≤◌, List, [], ◌++◌, length, take, drop, get_or, Option, None, Some}
pub use Rattle.std.proofs.Common.{Result, Ok, Err, IsErr, refl, sym, ap, subst, ◌∙◌, inl, inr, arith, append_assoc, ◌/◌}
pub use Rattle.std.proofs.Common.{◌%◌, ◌&&◌, Bool, true, false, nat_lt, ◌∷◌, zero, suc, ◌-◌, ◌*◌, ◌^◌, ℤ, pos, negsuc}
pub use Rattle.std.proofs.Common.{cond, decimal, Fits, FitsSigned, w32, w64, ◌==◌, replicate, codes, map, rules}
pub use Rattle.std.proofs.lemmas.Bool.Decides.{nat_tests, Decides-ltb}
pub use Rattle.std.proofs.lemmas.Int.{to_z-of_z}
pub use Rattle.std.proofs.lemmas.List.{append-nil, take_all, append_cancel_left, get_or-map, length-map}
pub use Rattle.std.specs.Int.{w128}
pub use Rattle.std.specs.List.{flat_map, list_all, All}
pub use Rattle.hull_io.specs.Edge.{Rose, grown, Gains, FallsShort, Writes}
pub use Rattle.report_form.specs.Laws.{IsFlatLine, TextDeterminesReport}
pub use Rattle.report_form.specs.Numerals.{digits_up_to, signed_numeral}
unfoldable pub use Rattle.report_form.specs.Numerals.{numeral}
pub use Rattle.report_form.specs.Parts.{hex_of, stands_as_is, spaced_flags, spaced, tally}
pub use Rattle.report_form.specs.Parts.{part_text}
unfoldable pub use Rattle.report_form.specs.Parts.{escaped}
pub use Rattle.report_form.specs.Forms.{is_blank, filled}
pub use Rattle.report_form.specs.Pending.{Pends, Adds}
pub use Rattle.report_form.specs.ReportText.{UnitLine, rows_text, renewable_text, bid_text, Report}
pub use Rattle.report_form.specs.SettlementText.{SettlementReport, TextDeterminesSettlement}
pub use Rattle.report_form.specs.CertificateText.{Certificate, TextDeterminesCertificate}
unfoldable pub use Rattle.report_form.specs.CertificateText.{certificate_text}
unfoldable pub use Rattle.report_form.specs.SettlementText.{opening_text, levels_text, priced_text, settlement_text}
pub use Rattle.report_form.specs.ConvexText.{ShareLine, MixtureLine, ConvexReport, mixture_text, TextDeterminesConvex}
unfoldable pub use Rattle.report_form.specs.ConvexText.{
  search_text,
  searched_text,
  weighed_text,
  share_text,
  mixed_text,
  bounded_text,
  convex_text,
}
unfoldable pub use Rattle.report_form.specs.ReportText.{
  head_text,
  row_text,
  chosen_text,
  thermal_text,
  flat_text,
  foot_text,
  report_text,
}
pub use Rattle.plain_lists.proofs.ListLaws.{flat_map_at, flat_map_up_to}
pub use Rattle.uc_model.specs.PlainCases.{proposal_of}
pub use Rattle.uc_model.specs.PriceRule.{Proposal}
