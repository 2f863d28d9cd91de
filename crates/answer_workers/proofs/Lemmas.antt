-- The lemmas that answers cite, passed on from one place.
pub use Rattle.answer_workers.proofs.BenchLaws.{kept, bench_of_case}
pub use Rattle.answer_workers.proofs.Going.{claim_goes, post_goes}
pub use Rattle.answer_workers.proofs.Rows.{zip_worked, then_worked, one_works, one_there, one_finishes, all_still}
pub use Rattle.answer_workers.proofs.Rows.{still_all_of, EachWorked, EachFinished}
pub use Rattle.answer_workers.proofs.Steady.{rests, seat_stays, works_on, still_of, parts_after, parts_posted}
pub use Rattle.answer_workers.proofs.Holding.{some_schedule, bench_serves, fits_at, parts_given, parts_answered}
pub use Rattle.answer_workers.proofs.Holding.{given_kept, given_more, answered_at, Opens}
