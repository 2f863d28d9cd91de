-- The names that the proofs of this crate take from its specs and from other crates, passed on from one place.
pub use borrow.Author.Rules.{scaled_Fits}
pub use Rattle.std.proofs.Common.{◌≡◌, ℕ, zero, suc, ◌<◌, ◌≤◌, inl, inr, Option, Some, None, ℤ, pos, ◌≤ℤ◌, List, []}
pub use Rattle.std.proofs.Common.{length, refl, sym, ap, ◌∙◌, subst, arith, ◌+◌, ◌-◌}
pub use Rattle.std.proofs.Common.{◌⊎◌, Bool, true, false, cond, ◌+ℤ◌, ◌≢◌, ◌*◌, ◌-ℤ◌, ◌<ℤ◌, ◌∷◌, length-set}
pub use Rattle.std.proofs.Common.{add-one, get_or, ◌==◌, rules, to_z, of_z}
pub use Rattle.std.proofs.lemmas.Bool.{cases_Bool, cases_eq, cases_lt, lt-ltb, OnTrue_at, OnTrue_from}
pub use Rattle.std.proofs.lemmas.Nat.{mul-le}
pub use Rattle.std.proofs.lemmas.Int.{ints, clamps, to_z-of_z}
pub use Rattle.std.proofs.lemmas.Option.{slice_get_within, slice_get-get_or, get_or_from_slice_get}
pub use Rattle.std.specs.Int.{int_min, w64}
pub use Rattle.std.specs.Option.{option_map, option_map_or}
pub use Rattle.std.specs.Prelude.{IsTrue, slice_set, int_le, IfSome, slice_get, IsFalse, if◌then◌else◌, IfNone}
pub use Rattle.std.specs.Prelude.{FitsSigned, ◌^◌}
pub use Rattle.unit_rows.specs.Limits.{AreLimits, capped, cap_of_row, IsInRange}
pub use Rattle.unit_table.specs.Limits.{IsTableWithin, IsFilledWithin}
pub use Rattle.unit_table.specs.Live.{state_of, going_of, live_at, left_of, left_at, AreTraces, IsRoomy, AreRoomy}
pub use Rattle.unit_table.specs.Live.{AreSmall}
pub use Rattle.unit_table.specs.Live.{IsUnder, IsBeyond, IsBelow, HaveRoom, IsFilledTo}
pub use Rattle.unit_rows.specs.Origins.{IsOrigin, AreOrigins, AreOriginsWithin}
pub use Rattle.unit_table.specs.Questions.{unit_of, prices_in, periods_in, charge_of, limits_in}
pub use Rattle.unit_table.specs.Questions.{Asked, asked, asked_at, periods_of}
pub use Rattle.unit_table.specs.Rosters.{IsRoster}
pub use Rattle.unit_rows.specs.Rows.{row_at, cost_at, AreWithin, IsFirstRow, IsWithinTimes, first_at, before_at, IsPut}
pub use Rattle.unit_table.specs.RunningSpells.{IsTableTo, Going, AreRunningSpells, IsRowOf, IsGoneOn, MayBeOn}
pub use Rattle.unit_table.specs.RunningSpells.{IsEndLeft, IsRunningSpell}
pub use Rattle.unit_table.specs.RunningSpells.{HasStandIn, AreNoted, AreAllNoted, CanBacktrack, IsBegun, since}
pub use Rattle.unit_rows.specs.Spells.{StopsAtOnce, IsSpell, off_time, on_time}
pub use Rattle.unit_table.specs.Taken.{AreFewer, IsKeptFrom, AreKept, IsRowTo, IsRowMore, IsOneRun, IsRunOver}
pub use Rattle.unit_table.specs.Taken.{IsSweptTo, AreAsLong, HaveSameRooms, IsEntryMore}
pub use Rattle.unit_rows.specs.Ends.{HasAtMost, IsEntryAfter, IsStarted, IsLeastEntry, IsEntry}
pub use Rattle.unit_table.specs.Tables.{IsEnded, IsLatest}
pub use Rattle.unit_rows.specs.declared.origins.Origin.{Origin}
pub use Rattle.unit_table.specs.declared.running_spell.RunningSpell.{RunningSpell}
pub use Rattle.unit_rows.specs.declared.table.Ended.{Ended}
pub use Rattle.slope_list.specs.Table.{Table, value_of}
pub use Rattle.slope_list.specs.Slopes.{shown, count_of, room_of, space_of}
pub use Rattle.slope_list.specs.declared.slopes.Lowest.{Lowest}
pub use Rattle.spell_run.specs.Frontier.{IsFrontier}
pub use Rattle.spell_run.specs.Joins.{RunsMeetingAtPowerContinueAlike, DispatchesMeetingAtPowerContinueAlike}
pub use Rattle.spell_run.specs.Joins.{DispatchesAreRuns}
pub use Rattle.plain_lists.specs.Reserved.{Reserved}
pub use Rattle.spell_run.specs.Logs.{left_by, IsTrace}
pub use Rattle.spell_run.specs.Notes.{IsOnNoted, IsEndNoted, IsSpellNoted, end_cost}
pub use Rattle.spell_run.specs.Spells.{IsSpellAnswer, spell_cost, IsDispatch, IsLeastSpell, sum_from_to}
pub use Rattle.unit_rows.specs.NetCosts.{net_cost}
pub use Rattle.spell_run.specs.Steps.{IsMove, IsRun}
unfoldable pub use Rattle.spell_run.specs.Steps.{level}
pub use Rattle.spell_run.specs.declared.notes.Logged.{Logged}
pub use Rattle.spell_run.specs.declared.notes.Passed.{Passed}
pub use Rattle.spell_run.specs.declared.notes.Trace.{Trace}
pub use Rattle.uc_model.specs.BoundLaws.{StartCostsAreWithin}
pub use Rattle.uc_model.specs.Data.{ThermalUnit, PriceLists, Schedule}
pub use Rattle.uc_model.specs.Limits.{IsThermalUnit, IsLag}
pub use Rattle.uc_model.specs.PlainUnits.{thermal_of}
pub use Rattle.uc_model.specs.Schedules.{mark_in, cap_of, power_in, reserve_in}
pub use Rattle.plain_lists.specs.Sums.{sum_below, int_at}
pub use Rattle.uc_model.specs.declared.units.Mark.TheVariants.{MustOff}
