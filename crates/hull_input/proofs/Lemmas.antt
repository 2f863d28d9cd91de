-- The lemmas that answers cite, passed on from one place.
pub use Rattle.hull_input.proofs.ReadLaws.{got, unread, unread_is, report_added, are_report_added, prices_added}
pub use Rattle.hull_input.proofs.ReadLaws.{are_prices_added, mixture_added, are_mixture_added, any_reads, read_wider}
pub use Rattle.hull_input.proofs.ReadLaws.{two_reads, are_two_reads, was_read, was_too_big}
pub use Rattle.hull_input.proofs.RefusedLaws.{prices_refused, report_refused, work_refused, priced_refused}
pub use Rattle.hull_input.proofs.RefusedLaws.{mixture_refused, text_read}
pub use Rattle.hull_input.proofs.FaultLaws.{case_refuses, plan_refuses, prices_refuse, report_refuses, shares_refuse}
pub use Rattle.hull_input.proofs.StepLaws.{refused_then, fault_then, answer_then, fault_handed_on, are_named}
pub use Rattle.hull_input.proofs.StepLaws.{read_named}
