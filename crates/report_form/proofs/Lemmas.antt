-- The lemmas that answers cite, passed on from one place.
pub use Rattle.report_form.proofs.NameLemmas.{escaped-plain, escaped-control, escaped-behind, escaped_all_plain}
pub use Rattle.report_form.proofs.NumeralLaws.{count_is, amount_is, number_is, wide_count_is}
pub use Rattle.report_form.proofs.PieceLemmas.{pends_in_list, adds_same, adds_then, adds_exit, adds_exit_in_list}
