-- The lemmas that answers cite, passed on from one place.
pub use Rattle.report_read.proofs.LineLoops.{unit_goes_on, unit_fails, units_done, row_goes_on, row_fails, rows_done}
pub use Rattle.report_read.proofs.Loops.{byte_goes_on, byte_fails, name_ends, name_is_open, item_goes_on, item_fails}
pub use Rattle.report_read.proofs.Loops.{items_done}
pub use Rattle.report_read.proofs.Narrow.{below_least, above_most, within, count_none, count_some, count_most}
pub use Rattle.report_read.proofs.Narrow.{plus_none, plus_above, plus_some, int_below, int_above, int_within}
pub use Rattle.report_read.proofs.Narrow.{integer_none, integer_some, minus_none, minus_zero, minus_some}
pub use Rattle.report_read.proofs.AtMostOneLineIsInFault.{one_fault, one_difference}
pub use Rattle.report_read.proofs.RowForms.{row_shortens, prices_are, totals_are, prices_valid, energy_zero}
pub use Rattle.report_read.proofs.RowForms.{reserve_zero}
pub use Rattle.report_read.proofs.UnitForms.{powers_are, length-replicate, flags_are}
pub use Rattle.report_read.proofs.WholeForm.{has_form, head_is, head_shorter, units_order, all_takes, is_fault}
pub use Rattle.report_read.proofs.WholeForm.{report_or_fault, left_within, never_both, one_read}
