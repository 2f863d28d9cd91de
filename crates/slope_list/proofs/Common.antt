-- The names that the proofs of this crate take from its specs and from other crates, passed on from one place.
pub use Rattle.std.proofs.Common.{◌≡◌, [], true, false, Option, Some, None, refl, sym, ap, ◌∙◌, subst, length}
pub use Rattle.std.proofs.Common.{vec_capacity, take, rules, List, ◌≤◌, arith, ℕ, suc, ◌+◌, ◌-◌, ◌<◌, zero, neg_ℤ}
pub use Rattle.std.proofs.Common.{to_z, of_z, inl, inr, ◌∷◌, ◌≢◌, get_or-set_same, get_or-set_other, ◌⊎◌, below_more}
pub use Rattle.std.proofs.Common.{get_or}
pub use Rattle.std.proofs.lemmas.Int.{to_z-of_z, ints, clamps, by_lt_z}
pub use Rattle.std.proofs.lemmas.List.{with_items_is, places, length-take}
pub use Rattle.std.specs.Bool.{OnTrue}
pub use Rattle.std.specs.Int.{w64, int_min, int_max}
pub use Rattle.std.specs.Prelude.{IfSome, ℤ, pos, negsuc, ◌+ℤ◌, ◌-ℤ◌, ◌*ℤ◌, MatchOption, FitsSigned, ◌≤ℤ◌, ◌<ℤ◌}
pub use Rattle.std.specs.Prelude.{unsigned_abs, slice_set, slice_get, int_lt}
pub use Rattle.slope_list.specs.Effect.{IsLeast, IsSum, IsCurveSum, IsWindow, IsLeastIn, IsPoint}
pub use Rattle.slope_list.specs.Steps.{IsStepped, IsSmall, IsFairStep, IsCostOf}
pub use Rattle.slope_list.specs.Table.{Table, value_of, offset_value, IsEmpty, IsAmount, IsPlace, IsConvex, HasNone}
pub use Rattle.slope_list.specs.Below.{IsNowhereAbove, IsAbove, IsReached, IsUnder, IsUnderTo}
pub use Rattle.slope_list.specs.After.{table_after, stepped}
pub use Rattle.slope_list.specs.Pieces.{table_of, last_power, piece, end_at, function_of, AreSlopes, IsLine, table_on}
pub use Rattle.slope_list.specs.Pieces.{Curves, Stand, values_from, powers_to, value_along}
pub use Rattle.slope_list.specs.Turn.{IsTurn, IsFirst, IsLast, IsBottom}
pub use Rattle.slope_list.specs.declared.step.Made.{Made}
pub use Rattle.std.specs.Option.{option_map}
pub use Rattle.slope_list.specs.Curve.{curve_value, reserve_term, rise_at, end_of, IsLimitedCurve}
pub use Rattle.slope_list.specs.ShapeLaws.{ConvexityDependsOnValuesAlone, StepKeepsConvexity, PointIsConvex}
pub use Rattle.slope_list.specs.ShapeLaws.{CopyIsConvex}
pub use Rattle.slope_list.specs.ShapeLaws.{LineKeepsConvexity, ReserveKeepsConvexity, WindowKeepsConvexity}
pub use Rattle.slope_list.specs.ShapeLaws.{CurveKeepsConvexity, CurvePowersAreWithinLimits, CurveHasValueAtEachPower}
pub use Rattle.slope_list.specs.ShapeLaws.{PointIsExact}
pub use Rattle.slope_list.specs.ShapeLaws.{SumIsExact, CurveSumIsExact, WindowIsExact, SumIsOfValues}
pub use Rattle.slope_list.specs.ShapeLaws.{CurveSumIsOfValues, WindowIsOfValues, PointIsWithinLimits}
pub use Rattle.slope_list.specs.ShapeLaws.{CopyIsWithinLimits, SumIsWithinLimits, CurveSumIsWithinLimits}
pub use Rattle.slope_list.specs.ShapeLaws.{WindowIsWithinLimits}
pub use Rattle.slope_list.specs.declared.step_terms.Step.{Step}
pub use Rattle.slope_list.specs.Blocks.{IsInBlock, HasCosts, block, width_to, IsPrice}
pub use Rattle.slope_list.specs.Drawn.{cost_at, IsDrawn, with_cost}
pub use Rattle.slope_list.specs.Window.{paid, nearest, moved, runs_from, one_before, IsFlat}
pub use Rattle.slope_list.specs.Cursors.{AreWithin, IsPlaced, IsValley}
pub use Rattle.slope_list.specs.Kink.{kinked, AreSmall, AreGentle, bend_of, IsLowered, IsGentle, IsSteep, parts_from}
pub use Rattle.slope_list.specs.Runs.{IsNear, IsRun}
pub use Rattle.slope_list.specs.StepProgress.{IsFurther}
pub use Rattle.slope_list.specs.declared.draw.Pen.{Pen}
pub use Rattle.slope_list.specs.declared.cursor.Cursor.{Cursor}
pub use Rattle.slope_list.specs.declared.piece.Piece.{Piece}
pub use Rattle.slope_list.specs.declared.piece.Start.{Start}
pub use Rattle.slope_list.specs.declared.progress.StepProgress.{StepProgress}
pub use Rattle.slope_list.specs.declared.run.Run.{Run}
pub use Rattle.slope_list.specs.declared.window.Window.{Window}
pub use Rattle.plain_lists.specs.Ranges.{IsFrom}
pub use Rattle.uc_model.specs.Limits.{IsOutput, IsCost, IsPower}
pub use Rattle.uc_model.specs.declared.units.Curve.{Curve}
pub use lib.Signed.{lt_z}
pub use Rattle.std.proofs.lemmas.Bool.{cases_lt, OnTrue_from}
pub use Rattle.slope_list.specs.Totals.{CanGo, IsTotal}
pub use Rattle.slope_list.specs.declared.blocks.Span.{Span}
pub use Rattle.uc_model.specs.declared.units.Block.{Block}
pub use Rattle.std.proofs.Math.IntN.{zero-*ℤ, *ℤ_comm, *ℤ-zero, *ℤ-one}
pub use Rattle.plain_lists.proofs.IntLaws.{mul-mono_of, mul-add, mul-sub}
unfoldable pub use Rattle.std.proofs.Math.IntN.{one}
