-- The lemmas that answers cite, passed on from one place.
pub use Rattle.flat_answer.proofs.Blocks.{counts, part_step, part_is_choice, IsPart}
pub use Rattle.flat_answer.proofs.Forms.{flat_can, flat_earns, flat_by_place, bid_can, bid_earns, bid_by_place}
pub use Rattle.flat_answer.proofs.Forms.{blocks_read}
pub use Rattle.flat_answer.proofs.Places.{answered_next, answered_all, IsAnswered}
