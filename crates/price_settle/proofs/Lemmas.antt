-- The lemmas that answers cite, passed on from one place.
pub use Rattle.plan_check.proofs.PlanLaws.{HasLengths}
pub use Rattle.price_settle.proofs.Bounds.{best_within, scheduled_within}
pub use Rattle.price_settle.proofs.Paid.{flat_paid, bid_paid, thermal_paid}
pub use Rattle.price_settle.proofs.Units.{earned_length, earned_item}
