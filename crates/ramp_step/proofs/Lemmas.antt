-- The lemmas that answers cite, passed on from one place.
pub use Rattle.ramp_step.proofs.CurveLaws.{curve_begins, IsNextEnd, next_end, end_coded, IsRefined-none, IsRefined-more}
pub use Rattle.ramp_step.proofs.CurveLaws.{curve_straight, curve_convex}
pub use Rattle.ramp_step.proofs.CutLaws.{IsSplit-still, IsSplit-inserted, IsLimited-inserted, on_line_between}
pub use Rattle.ramp_step.proofs.CutLaws.{within_between, IsCut-below, IsCut-at, IsCut-off, IsLimited-fewer}
pub use Rattle.ramp_step.proofs.CutLaws.{value_between}
pub use Rattle.ramp_step.proofs.DivLaws.{exact_div, amount_part}
pub use Rattle.ramp_step.proofs.KnotLaws.{rises, HaveSameEnds-then, is_inside, inside_same, knot_same, knot_other}
pub use Rattle.ramp_step.proofs.KnotLaws.{StandFor-raised, HaveSameEnds-raised, line_straight, straight_convex}
pub use Rattle.ramp_step.proofs.LimitLaws.{IsLimited-within}
pub use Rattle.ramp_step.proofs.RunLaws.{shape_of, AreBreaks-from, one_knot_is_point, same_knots_are_same}
pub use Rattle.ramp_step.proofs.RunLaws.{runs_stand_between}
pub use Rattle.ramp_step.proofs.ShapeLaws.{IsWindow-from_knots, value_of-from_knots}
pub use Rattle.ramp_step.proofs.SpacedLaws.{StandFor-same, spaced_moved, spaced_closed, IsLimited-same, IsRefined-same}
pub use Rattle.ramp_step.proofs.SpacedLaws.{AreBelow-moved, spaced_before, spaced_after, IsInserted-put, AreBelow-put}
pub use Rattle.ramp_step.proofs.SpacedLaws.{IsMovedOn-stop}
pub use Rattle.ramp_step.proofs.SpreadLaws.{AreWindow-still, AreWindow-spread, IsLimited-still, IsLimited-spread}
pub use Rattle.ramp_step.proofs.SpreadLaws.{IsWindow-cut}
pub use Rattle.ramp_step.proofs.StepLaws.{curve_sum, curve_sum_breaks, within_of, can_add, sum, sum_breaks}
pub use Rattle.ramp_step.proofs.TurnLaws.{turn_is_least, nearest_is_least}
