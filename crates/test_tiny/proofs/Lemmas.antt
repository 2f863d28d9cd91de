-- The lemmas that answers cite, passed on from one place.
pub use Rattle.test_tiny.proofs.BoundLaws.{product_bound, product_fits}
pub use Rattle.test_tiny.proofs.EnvelopeSteps.{halves, half_within, least_line-fold, envelope-found}
pub use Rattle.test_tiny.proofs.StepLaws.{after-firsts, IsTurned, new_set, old_split, turned_more, turned_all}
pub use Rattle.test_tiny.proofs.StepLaws.{after-one_more, after-lasts, carry_power, carry_flags, flags-one_more}
pub use Rattle.test_tiny.proofs.StepLaws.{flags-lasts}
pub use Rattle.test_tiny.proofs.TryLaws.{keeps_infeasible, keeps_better, takes, begins, kept_is_least, size_of}
