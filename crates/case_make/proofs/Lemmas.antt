-- The lemmas that answers cite, passed on from one place.
pub use Rattle.case_make.proofs.Bounds.{has_range, at_rises, at_most, cost_range, max_range, min_range}
pub use Rattle.case_make.proofs.LaterLaws.{unit_named, unit_planned, renewable_named, renewable_planned}
pub use Rattle.case_make.proofs.Loops.{pushed, viewed, pushed_after, whole, added_more, left_more}
pub use Rattle.case_make.proofs.RenewableLaws.{powers_within, renewable_limited, renewable_is}
pub use Rattle.case_make.proofs.SumLaws.{thermal_small, grown_small, no_sums, smaller, full_within, unit_within}
pub use Rattle.case_make.proofs.SumLaws.{sums_powers, sums_more}
pub use Rattle.case_make.proofs.WordLaws.{first_word, one_step, word_after, one_more, not_moved, then_moved}
