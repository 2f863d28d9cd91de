-- The names that the proofs of this crate take from its specs and from other crates, passed on from one place.
pub use Rattle.std.proofs.Common.{◌≡◌, ℕ, ◌+◌, ◌≤◌, ℤ, pos, neg_ℤ, ◌+ℤ◌, ◌*ℤ◌, Option, Some, None, refl, ap, ◌∙◌, subst}
pub use Rattle.std.proofs.Common.{arith, ◌-ℤ◌, ◌≤ℤ◌, ◌<ℤ◌, sym, w64, FitsSigned, to_z, of_z, zero, suc, ◌<◌}
pub use Rattle.std.proofs.Common.{◌⊎◌, inl, inr, negsuc, Bool, true, false, List, [], ◌∷◌, take, ltb, eqb, length}
pub use Rattle.std.proofs.Common.{IfSome, ◌-◌, ◌≢◌, get_or, set, get_or-set_same, get_or-set_other, cond, IsSome, ◌*◌}
pub use Rattle.std.proofs.Common.{length-set, replicate, rules}
pub use Rattle.std.proofs.Common.{◌++◌, length-append, add-one, nat_abs, ◌&&◌}
pub use Rattle.std.proofs.Math.IntN.{zero-*ℤ, *ℤ-one, *ℤ_comm}
pub use Rattle.std.proofs.lemmas.Bool.{lt-ltb, le-ltb, cases_lt, eqb-true, ltb-true, eq-eqb, cond-true, cond-false}
pub use Rattle.std.proofs.lemmas.Bool.{ne_eqb, and_right}
pub use Rattle.std.proofs.lemmas.Int.{to_z-of_z, by_lt_z}
pub use Rattle.std.proofs.lemmas.List.{length-replicate, get_or-replicate, get_or_past, get_or_append_left}
pub use Rattle.std.proofs.lemmas.List.{get_or_push}
pub use Rattle.std.proofs.lemmas.Option.{get_or_from_slice_get}
pub use Rattle.std.specs.Int.{int_min, int_max}
pub use Rattle.std.specs.Option.{option_map}
pub use Rattle.std.specs.Prelude.{slice_get, MatchOption, IfNone, IsTrue, int_lt}
pub use Rattle.cost_curve.specs.CostCurve.{IsCostCurve, AreCostPoints, EnvelopeIsWithinCostLimit}
pub use Rattle.slope_list.specs.Curve.{curve_value, reserve_term, end_of, IsLimitedCurve}
pub use Rattle.slope_list.specs.Effect.{IsSum, IsLeastIn, IsLeast, IsCurveSum, IsPoint, Reaches}
pub use Rattle.slope_list.specs.Table.{Table, value_of, HasNone, offset_value, IsEmpty, IsPlace, IsAmount}
pub use Rattle.slope_list.specs.declared.step_terms.Step.{Step}
pub use Rattle.slope_list.specs.declared.slopes.Lowest.{Lowest}
pub use Rattle.slope_list.specs.Turn.{IsTurn, IsBottom, IsFirst, IsLast}
pub use Rattle.spell_run.proofs.Arithmetic.{signed, bounded}
pub use Rattle.spell_run.proofs.Options.{same_some}
pub use Rattle.spell_run.specs.Frontier.{IsFrontier, IsReached}
pub use Rattle.spell_run.specs.Laws.{best_reserve, most_reserve, IsReserve, ReserveEarningsHaveAKink, MostReserveIsBest}
pub use Rattle.spell_run.specs.Logs.{entry_at, left_from, AreLogged, left_by, IsTrace}
pub use Rattle.spell_run.specs.Notes.{passed_at, IsNoted, IsEndNoted, end_cost, IsSpellNoted}
pub use Rattle.spell_run.specs.Spells.{IsSpellWithin, IsDispatch, spell_cost, IsSpellAnswer}
pub use Rattle.unit_rows.specs.NetCosts.{net_cost_at, net_cost}
pub use Rattle.spell_run.specs.Spells.{over_min, IsBestDispatch, IsFirstDispatch}
pub use Rattle.spell_run.specs.Steps.{IsFairStep, IsCostOf, IsKinked, IsSmall, cap_at, step_at, IsStepped, IsLeastCost}
pub use Rattle.spell_run.specs.Steps.{IsLeastCostIn, IsMove, IsRun}
unfoldable pub use Rattle.spell_run.specs.Steps.{level}
pub use Rattle.spell_run.specs.declared.notes.Logged.{Logged}
pub use Rattle.spell_run.specs.declared.notes.Note.{Note}
pub use Rattle.spell_run.specs.declared.notes.Passed.{Passed}
pub use Rattle.spell_run.specs.declared.notes.Trace.{Trace}
pub use Rattle.plain_lists.proofs.IntLaws.{mul-sub, mul-mono_of, sum_below-same}
pub use Rattle.plain_lists.proofs.SignedLaws.{IsWithin, product_within, fits_within}
pub use Rattle.uc_model.specs.Data.{Schedule, ThermalUnit, PriceLists}
pub use Rattle.uc_model.specs.Envelope.{envelope}
pub use Rattle.plain_lists.specs.Ranges.{IsFrom}
pub use Rattle.uc_model.specs.Limits.{IsOutput, IsThermalUnit, IsPower, IsCost, ArePrices, Spans}
pub use Rattle.uc_model.specs.PlainUnits.{thermal_of, prices_of, schedule_of}
pub use Rattle.uc_model.specs.Schedules.{power_in, reserve_in, cap_of}
pub use Rattle.plain_lists.specs.Sums.{int_at, sum_below}
pub use Rattle.uc_model.specs.declared.units.Curve.{Curve}
pub use Rattle.spell_run.specs.Entries.{IsOnFromTo, IsSameOutside}
pub use Rattle.spell_run.specs.Backtracking.{
  IsWritten,
  IsChosen,
  IsWayFrom,
  stops_at,
  HasBestReserve,
  HasSamePowersAfter,
}
pub use Rattle.spell_run.specs.Backtracking.{IsSameAfter, IsCheapest}
