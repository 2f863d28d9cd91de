-- The lemmas that answers cite, passed on from one place.
pub use Rattle.right_report.proofs.Choices.{most_rows, chosen_in, choice_told, value_told}
pub use Rattle.right_report.proofs.OneReport.{report_payments, one_right_report}
pub use Rattle.right_report.proofs.Records.{record_is_right, tops_at, settled_lengths}
pub use Rattle.right_report.proofs.Sides.{made_up, one_side, sides_are_right, chosen_row_at}
