-- The lemmas that answers cite, passed on from one place.
pub use Rattle.test_shapes.proofs.ChainLaws.{charged_by, bounded_by}
pub use Rattle.test_shapes.proofs.FrameLaws.{others_stay, ended_shapes_leave_nothing, frames_join}
pub use Rattle.test_shapes.proofs.BlockLaws.{block_sum}
pub use Rattle.test_shapes.proofs.ReachLaws.{IsReached, IsReached-start, value_amount, near_amount, near_value}
pub use Rattle.test_shapes.proofs.ReachLaws.{width_power, far_amount, IsReached-past}
