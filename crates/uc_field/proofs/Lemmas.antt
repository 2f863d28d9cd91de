-- The lemmas that answers cite, passed on from one place.
pub use Rattle.uc_field.proofs.Ordered.{is_point_list}
pub use Rattle.uc_field.proofs.Periods.{period_read, period_refused, period_goes_on, period_ends}
