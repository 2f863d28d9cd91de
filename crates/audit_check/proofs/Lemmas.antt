-- The lemmas that answers cite, passed on from one place.
pub use Rattle.audit_check.proofs.Following.{next_is, last_is, past_long, moved_over}
pub use Rattle.audit_check.proofs.JobLaws.{earned_sum, tops, as_long, work_of, runs_of, spare_of, after, none_run}
pub use Rattle.audit_check.proofs.JobLaws.{all_kept, all_within, all_for}
pub use Rattle.audit_check.proofs.Keeping.{few_units, nothing_more, answer_more, answer_small, starts, starts_within}
pub use Rattle.audit_check.proofs.Keeping.{keeps_more}
pub use Rattle.audit_check.proofs.RunLaws.{row_below, goes_on, ends_at_budget, ends_settled, cost_worth, one_longer}
pub use Rattle.audit_check.proofs.Small.{within_wider, zero_at, raised_within, all_zero, within_over, gather_more}
pub use Rattle.audit_check.proofs.Small.{small_at}
