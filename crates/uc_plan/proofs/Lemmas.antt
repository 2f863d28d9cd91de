-- The lemmas that answers cite, passed on from one place.
pub use Rattle.uc_plan.proofs.Lookups.{none_yet, put_member, no_name, put_name, unknown_here, unknown_later}
pub use Rattle.uc_plan.proofs.Lookups.{unknown_none}
pub use Rattle.uc_plan.proofs.Loops.{number_goes_on, number_ends, numbers_done, numbers_begin, one_number}
pub use Rattle.uc_plan.proofs.Schedules.{front_begin, front_more, front_fails, front_done, Front}
