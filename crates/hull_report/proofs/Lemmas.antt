-- The lemmas that answers cite, passed on from one place.
pub use Rattle.report_form.proofs.TextLaws.{gains_at_item, exit_at_item, first_of_two, last_of_two}
pub use Rattle.report_form.proofs.TextLaws.{first_of_three, second_of_three, last_of_three, all_items, writes_same}
pub use Rattle.hull_report.proofs.WholeReports.{front_text, units_text, whole_report, whole_try, whole_settlement}
pub use Rattle.hull_report.proofs.UnitTexts.{all_texts, text_at, no_more_texts, told_by_kind, units_told, counts_of}
pub use Rattle.hull_report.proofs.UnitTexts.{line_stands, line_gained, line_cut}
pub use Rattle.hull_report.proofs.ConvexTexts.{share_lines, length-shares, entry_at, mixed_as_told, mixture_at}
pub use Rattle.hull_report.proofs.ConvexTexts.{no_more_mixtures, whole_search}
