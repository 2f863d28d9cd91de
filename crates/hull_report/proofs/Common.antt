-- The names that the proofs of this crate take from its specs and from other crates, passed on from one place.
pub use Rattle.std.proofs.Common.{◌≡◌, ℕ, zero, suc, ◌∷◌, length-append, ◌+◌, ◌<◌, ◌≤◌, ℤ, pos, Some, List, []}
pub use Rattle.std.proofs.Common.{map, length, get_or, slice_get, sym, ap, ◌∙◌, subst, arith, ◌++◌, take, Option}
pub use Rattle.std.proofs.Common.{Result, IsErr, ◌-ℤ◌, append_assoc, rules, codes, refl, w64}
pub use Rattle.std.proofs.lemmas.Int.{to_z-of_z}
pub use Rattle.std.proofs.lemmas.List.{length-map, get_or-map}
pub use Rattle.std.proofs.lemmas.Option.{get_or_from_slice_get}
pub use Rattle.std.specs.Int.{w128}
pub use Rattle.std.specs.List.{flat_map}
pub use Rattle.board_store.specs.Board.{Content}
pub use Rattle.board_store.specs.Calls.{own_rows}
pub use Rattle.hull_io.specs.Edge.{Gains, FallsShort, Writes}
pub use Rattle.right_report.specs.Told.{IsTold}
unfoldable pub use Rattle.hull_report.specs.BoundText.{bound_text}
pub use Rattle.right_report.specs.RightSide.{told_of}
pub use Rattle.hull_report.specs.FixedText.{PaidLine, paid_start, paid_line}
unfoldable pub use Rattle.hull_report.specs.FixedText.{sides_text, paid_text, sums_text}
pub use Rattle.uc_model.specs.Data.{thermal_names, renewable_names, bid_names, NamedThermalUnit, NamedRenewableUnit}
pub use Rattle.uc_model.specs.Data.{NamedBidUnit, Market, unit_count, AnyUnit, Thermal, Flat, Bid, units, unit_names}
pub use Rattle.right_report.specs.RecordReport.{line_of, lines_from, chosen_of, value_of}
unfoldable pub use Rattle.right_report.specs.RecordReport.{report_of}
pub use Rattle.hull_report.specs.TryText.{try_text}
unfoldable pub use Rattle.hull_report.specs.TryText.{try_lines}
pub use Rattle.report_form.specs.Laws.{GainsAddUp}
pub use Rattle.report_form.specs.ReportText.{head_text, rows_text, chosen_text, thermal_text, renewable_text, bid_text}
pub use Rattle.report_form.specs.ReportText.{foot_text, UnitLine, unit_text}
unfoldable pub use Rattle.report_form.specs.ReportText.{report_text}
pub use Rattle.uc_model.specs.PlainCases.{market_of, proposal_of, unit_of}
pub use Rattle.uc_model.specs.PlainUnits.{named_thermal_of, named_renewable_of, named_bid_of, schedule_of}
pub use Rattle.price_settle.specs.declared.settlement.Settlement.{Settlement}
pub use Rattle.price_settle.specs.Settled.{Settled, settled_of}
pub use Rattle.hull_report.specs.SettledText.{settled_line}
unfoldable pub use Rattle.hull_report.specs.SettledText.{settlement_of}
unfoldable pub use Rattle.hull_report.specs.CertifiedText.{certificate_of}
pub use Rattle.report_form.specs.SettlementText.{priced_text}
unfoldable pub use Rattle.report_form.specs.SettlementText.{settlement_text}
unfoldable pub use Rattle.report_form.specs.ConvexText.{convex_text}
pub use Rattle.report_form.specs.ConvexText.{ShareLine, searched_text}
pub use Rattle.report_form.specs.ConvexText.{weighed_text, mixed_text, share_text}
pub use Rattle.report_form.specs.ConvexText.{mixture_text, bounded_text}
pub use Rattle.hull_report.specs.ConvexText.{share_line, mixture_line, mixture_lines}
unfoldable pub use Rattle.hull_report.specs.ConvexText.{convex_of}
pub use Rattle.gap_proof.specs.MixtureLaws.{least_paid}
pub use Rattle.gap_proof.specs.Mixtures.{WeighedSchedule, MixtureLists, AreEntries}
pub use Rattle.gap_proof.specs.Mixtures.{HasMixtureShape, entry_of, entries_of}
pub use Rattle.gap_proof.specs.Mixtures.{mixture_of}
