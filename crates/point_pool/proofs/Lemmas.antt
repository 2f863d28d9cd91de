-- The lemmas that answers cite, passed on from one place.
pub use Rattle.point_pool.proofs.FrameLaws.{Frame-changes}
pub use Rattle.point_pool.proofs.ListLaws.{written, breaks, left_list, moved, can_add_curve, curve_sum, can_add, sum}
pub use Rattle.point_pool.proofs.ReadLaws.{length-knots, IsLeast-turn, nearest, IsCellAt, IsCellAt-first, next_read}
pub use Rattle.point_pool.proofs.ReadLaws.{AreNeighbours, neighbours_read, IsRun-pair, IsRun-last, IsCellAt-next}
pub use Rattle.point_pool.proofs.ReadLaws.{IsAtTurn-here}
pub use Rattle.point_pool.proofs.WalkLaws.{changes_released, changes_stored, stored_none, stored_more, free_cons}
pub use Rattle.point_pool.proofs.WalkLaws.{length_if_free, walk_more, free_tail, length_if_used, lists_fit, Releasing}
pub use Rattle.point_pool.proofs.WalkLaws.{releasing_more, replaced_by}
