-- The lemmas that answers cite, passed on from one place.
pub use Rattle.hull_engine.proofs.AnswerLaws.{run_texts, bound_texts, sides_paid, fixed_texts}
pub use Rattle.hull_engine.proofs.EndLaws.{ends_for, handed_on}
pub use Rattle.hull_engine.proofs.RestLaws.{ends_of_rest}
pub use Rattle.hull_engine.proofs.WriteLaws.{status_written}
pub use Rattle.hull_engine.proofs.WorkerLaws.{useful_within}
