-- The lemmas that answers cite, passed on from one place.
pub use Rattle.law_outcome.proofs.OneDue.{one_due, one_text}
pub use Rattle.law_outcome.proofs.OutcomeLaws.{accepted_is_feasible, promised_at_0, has_cause, is_decided, words_follow}
