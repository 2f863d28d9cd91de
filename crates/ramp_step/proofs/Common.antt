-- The names that the proofs of this crate take from its specs and from other crates, passed on from one place.
pub use Rattle.std.proofs.Common.{◌≡◌, ℕ, zero, suc, ◌+◌, ◌-◌, ◌<◌, List, refl, sym, ap, ◌∙◌, arith, inl, inr, ◌≤◌, []}
pub use Rattle.std.proofs.Common.{◌∷◌, length, get_or, subst, to_z, of_z, Option, Some, None, true, false, ◌≢◌}
pub use Rattle.std.proofs.Common.{get_or-set_same, get_or-set_other, take, drop, cond, rules, below_more}
pub use Rattle.std.proofs.Math.IntN.{*ℤ-zero, *ℤ_comm, zero-*ℤ, *ℤ-one}
unfoldable pub use Rattle.std.proofs.Math.IntN.{one}
pub use Rattle.std.proofs.lemmas.Bool.{cases_lt}
pub use Rattle.std.proofs.lemmas.List.FromFn.{length-map-range_with_len, get_or-map-range_with_len}
pub use Rattle.std.proofs.lemmas.Int.{ints, by_lt_z, clamps, quot-rem, rem_below, to_z-of_z, quot_is, quot_fits}
pub use Rattle.std.specs.Int.{w64, int_min, int_max}
pub use Rattle.std.specs.Option.{option_map}
pub use Rattle.std.specs.Prelude.{ℤ, pos, ◌+ℤ◌, ◌-ℤ◌, ◌*ℤ◌, ◌≤ℤ◌, ◌<ℤ◌, int_lt, ◌⊎◌, negsuc, int_div, int_rem}
pub use Rattle.std.specs.Prelude.{unsigned_abs, slice_set, MatchOption, FitsSigned}
pub use Rattle.ramp_step.specs.Curve.{rise_over, curve_term, block_end, AreBlocks, EndsOutside, IsRefined}
pub use Rattle.ramp_step.specs.Curve.{AreLimitedBlocks, IsOver}
pub use Rattle.ramp_step.specs.Cut.{IsSplit, IsOnLine, IsBetween, AreWithin, IsLimited, AreBelow, IsCut, AreDropped}
pub use Rattle.ramp_step.specs.Cut.{IsInserted, IsPart}
pub use Rattle.ramp_step.specs.Knots.{knot, power, height, IsStraight, IsConvex, StandFor, IsWide, IsShape, IsInside}
pub use Rattle.ramp_step.specs.Knots.{CanAdd, HaveSameEnds, IsFar, AreRaised}
pub use Rattle.ramp_step.specs.Laws.{IsRun, MovesParts, RunsStandBetween, SameKnotsAreSame, OneKnotIsPoint, TurnIsLeast}
pub use Rattle.ramp_step.specs.Laws.{NearestIsLeast}
pub use Rattle.ramp_step.specs.Raise.{line_from, CanRaise, AreRaisedUpto, AreRaisedSoFar}
pub use Rattle.ramp_step.specs.Read.{IsLowest, HasNoPower, IsInsideWithin, IsValueAt}
pub use Rattle.ramp_step.specs.Spaced.{spaced, AreMovedBack, IsMovedOn}
pub use Rattle.ramp_step.specs.Tables.{table_of, AreWithinLimits, AreBreaks}
pub use Rattle.ramp_step.specs.Values.{line_at, value_upto, values_of}
pub use Rattle.ramp_step.specs.Window.{IsLeastInReach, IsTurn, IsWindow, AreSpread, AreWindow}
pub use Rattle.ramp_step.specs.declared.breakpoint.Knot.{Knot}
pub use Rattle.slope_list.specs.Curve.{rise_at, curve_value, end_of, reserve_term, IsLimitedCurve}
pub use Rattle.slope_list.specs.Effect.{CanAddCurve, IsSame, IsPoint, IsSum, IsCurveSum, IsLeast, IsLeastIn}
pub use Rattle.slope_list.specs.Table.{IsAmount, IsWithinLimits, value_of, Table, IsConvexList, IsEmpty, HasNone}
pub use Rattle.slope_list.specs.Table.{IsPlace}
pub use Rattle.plain_lists.proofs.IntLaws.{mul-add, mul-mono_of, mul-sub}
pub use Rattle.plain_lists.specs.Sums.{clamped}
pub use Rattle.uc_model.specs.declared.units.Block.{Block}
pub use Rattle.uc_model.specs.declared.units.Curve.{Curve}
