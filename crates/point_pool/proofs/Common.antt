-- The names that the proofs of this crate take from its specs and from other crates, passed on from one place.
pub use Rattle.std.proofs.Common.{◌≡◌, ℕ, List, sym, ap, ◌∙◌, subst, ◌<◌, ◌≤◌, ◌++◌, length, take, drop, Option, arith}
pub use Rattle.std.proofs.Common.{zero, suc, ◌+◌, ◌-◌, true, [], ◌∷◌, refl, inl, inr, ◌≢◌, Bool, false, set}
pub use Rattle.std.proofs.Common.{get_or-set_same, get_or-set_other, eqb, to_z, of_z, rules, Some, None, ◌^◌}
pub use Rattle.std.proofs.Common.{append_assoc, get_or, length-take}
pub use Rattle.std.proofs.lemmas.Int.{ints, to_z-of_z}
pub use Rattle.std.proofs.lemmas.List.{length-take-le, get_or-take, take_at, length-map, length-set, length-append}
pub use Rattle.std.proofs.lemmas.List.{get_or_read, take_more_set, drop_more}
pub use Rattle.std.specs.Int.{int_min, int_max, w64}
pub use Rattle.std.specs.Prelude.{ℤ, pos, ◌≤ℤ◌, ◌<ℤ◌, MatchOption, ◌⊎◌, FitsSigned, ◌*ℤ◌}
pub use Rattle.point_pool.specs.CellLaws.{same_by_slots, same_cell, slot_if_used, inside_if_used, length-walk}
pub use Rattle.point_pool.specs.CellLaws.{walk_same, knots_same, differ}
pub use Rattle.point_pool.specs.Seen.{cells_of, numbers_of, IsIn, knots_of, shown}
pub use Rattle.point_pool.specs.Walk.{slot_at, AreUsed, Changes, walk, knots_at, no_slot, AreFree, Stored, Released}
pub use Rattle.point_pool.specs.Walk.{Replaced}
pub use Rattle.point_pool.specs.declared.slot.Slot.{Slot}
pub use Rattle.ramp_step.specs.Knots.{knot, height, power}
pub use Rattle.ramp_step.specs.Laws.{SameKnotsAreSame, IsRun, TurnIsLeast, NearestIsLeast}
pub use Rattle.ramp_step.specs.Tables.{IsBreakList, table_of, function_of, AreBreaks}
pub use Rattle.ramp_step.specs.declared.breakpoint.Knot.{Knot}
pub use Rattle.test_shapes.specs.Cell.{IsAmong, Frame, AreDistinct}
pub use Rattle.slope_list.specs.Curve.{curve_value, reserve_term}
pub use Rattle.slope_list.specs.Effect.{IsSame, IsSum, IsCurveSum, CanAddCurve, IsWindow, IsLeast, IsLeastIn, IsPoint}
pub use Rattle.slope_list.specs.Table.{CanAdd, value_of, HasNone}
