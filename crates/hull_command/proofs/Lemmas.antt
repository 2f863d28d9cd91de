-- The lemmas that answers cite, passed on from one place.
pub use Rattle.hull_input.proofs.StepLaws.{answer_then}
pub use Rattle.hull_command.proofs.AuditLaws.{audit_refused, completes_audit}
pub use Rattle.hull_command.proofs.CertifyLaws.{answers_certify}
pub use Rattle.hull_command.proofs.ConvexLaws.{answers_convex}
pub use Rattle.hull_command.proofs.EndLaws.{refused_words, ends_as, end_of_text, sink_later, handed_on}
pub use Rattle.hull_command.proofs.EndLaws.{ended_as, handed_as, before_as, never_unread}
pub use Rattle.hull_command.proofs.RestLaws.{completes_run, completes_try}
pub use Rattle.hull_command.proofs.SettleLaws.{answers_settle}
pub use Rattle.hull_command.proofs.WordSizes.{words_have_sizes, words_have_sizes as sizes}
pub use Rattle.hull_command.proofs.WriteLaws.{run_text, written_bound, bound_written, ended_lengths, written_as}
pub use Rattle.hull_command.proofs.WriteLaws.{at_number}
