-- The names that the proofs of this crate take from its specs and from other crates, passed on from one place.
pub use Rattle.std.proofs.Common.{◌≡◌, ℕ, ◌+◌, ◌≤◌, ℤ, pos, neg_ℤ, ◌+ℤ◌, ◌*ℤ◌, Option, Some, None, refl, ap, ◌∙◌, subst}
pub use Rattle.std.proofs.Common.{arith, ◌-ℤ◌, ◌≤ℤ◌, sym, w64, FitsSigned, zero, suc, ◌<◌, ◌⊎◌, inl, inr, Bool, true}
pub use Rattle.std.proofs.Common.{false, List, [], ltb, eqb, length, IfSome, ◌-◌, ◌≢◌, get_or, set, get_or-set_same}
pub use Rattle.std.proofs.Common.{get_or-set_other, cond, ◌*◌, length-set, Result, Ok, Err, IfOk, is_ok, IsOk, rules}
pub use Rattle.std.proofs.Common.{to_z, of_z}
pub use Rattle.std.proofs.Math.IntN.{zero-*ℤ}
pub use Rattle.std.proofs.lemmas.Bool.{lt-ltb, cases_lt, false≢true, cases_eq}
pub use Rattle.std.proofs.lemmas.Int.{ints, clamps, to_z-of_z}
pub use Rattle.std.proofs.lemmas.Option.{MatchOption-at_some, MatchOption-at_none}
pub use Rattle.std.proofs.lemmas.Result.{IfOk-weaker, on_ok_weaker}
pub use Rattle.std.specs.Int.{int_min}
pub use Rattle.std.specs.Option.{option_map, option_map_or}
pub use Rattle.std.specs.Prelude.{MatchOption, IsTrue, IsFalse, max, IfNone}
pub use Rattle.cost_curve.specs.CostCurve.{IsCostCurve, EnvelopeIsWithinCostLimit}
pub use Rattle.test_shapes.specs.Cell.{Cell, Frame}
pub use Rattle.slope_list.specs.Curve.{curve_value, reserve_term}
pub use Rattle.slope_list.specs.Effect.{IsSum, IsWindow, CanAddCurve, IsLeastIn, IsLeast, IsSame, IsPoint}
pub use Rattle.test_shapes.specs.Laws.{StaysAs, OthersStay}
pub use Rattle.slope_list.specs.Table.{Table, value_of, CanAdd, HasNone, IsEmpty}
pub use Rattle.slope_list.specs.declared.step_terms.Step.{Step}
pub use Rattle.spell_run.specs.Entries.{IsOnFromTo, IsSameOutside}
pub use Rattle.spell_run.specs.Frontier.{IsFrontier}
pub use Rattle.spell_run.specs.Backtracking.{IsWritten, IsChosen, IsWayFrom, stops_at}
pub use Rattle.spell_run.specs.Laws.{best_reserve}
pub use Rattle.spell_run.specs.Spells.{IsSpellWithin, IsSpellAnswer, IsBestDispatch, IsFirstDispatch, HasNoDispatch}
pub use Rattle.spell_run.specs.Spells.{IsDispatch, IsLeastSpell, spell_cost}
pub use Rattle.spell_run.specs.Steps.{IsFairStep, IsCostOf, IsKinked, IsSmall, cap_at, step_at, IsStepped, IsLeastCost}
pub use Rattle.spell_run.specs.Steps.{IsLeastCostIn}
pub use Rattle.test_units.specs.declared.best.Found.{Found}
pub use Rattle.plain_lists.proofs.SignedLaws.{IsWithin, product_within}
pub use Rattle.uc_model.specs.Data.{Schedule, ThermalUnit, PriceLists}
pub use Rattle.plain_lists.specs.Ranges.{IsFrom}
pub use Rattle.uc_model.specs.Limits.{IsOutput, IsThermalUnit, ArePrices}
pub use Rattle.uc_model.specs.PlainUnits.{thermal_of, prices_of, schedule_of}
pub use Rattle.plain_lists.specs.Sums.{int_at}
pub use Rattle.uc_model.specs.declared.units.Curve.{Curve}
pub use Rattle.test_units.specs.Entries.{entry_of, IsSpellStart, IsSpellCost, IsUnreached, spell_first, cells_for}
pub use Rattle.std.proofs.lemmas.List.{length-replicate}
pub use Rattle.unit_table.specs.Laws.{StopsAtOnceCostNothing}
pub use Rattle.unit_rows.specs.Rows.{row_at, cost_at, first_at, before_at, HasEntryAtMost, IsWithinTimes, AreWithin}
pub use Rattle.unit_rows.specs.Rows.{IsFirstRow}
pub use Rattle.unit_rows.specs.Spells.{IsSpell, start_cost_after, IsOffRun, on_time, IsGap, StopsAtOnce, off_time}
pub use Rattle.unit_table.specs.Tables.{IsEnded, IsLatest, IsComplete, IsTable}
pub use Rattle.unit_rows.specs.Ends.{IsStarted, IsEntryAfter, IsEntry, IsLeastEntry, HasAtMost}
pub use Rattle.unit_rows.specs.declared.table.Ended.{Ended}
pub use Rattle.unit_rows.specs.declared.table.Entry.{Entry}
pub use Rattle.uc_model.specs.Schedules.{IsThermalFeasible, mark_in, on_in, power_in, reserve_in}
pub use Rattle.uc_model.specs.declared.units.Mark.TheVariants.{MustOff}
pub use Rattle.unit_program.specs.Backs.{IsWrittenBack, IsSameIn}
pub use Rattle.test_units.specs.Rows.{IsFilled, net_at, IsAdded, IsOpenUntil, IsUpdate}
pub use Rattle.unit_program.specs.Builds.{IsIdle}
