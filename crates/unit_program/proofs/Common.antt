-- The names that the proofs of this crate take from its specs and from other crates, passed on from one place.
pub use Rattle.std.proofs.Common.{◌≡◌, ℕ, zero, suc, ◌+◌, ◌-◌, ◌<◌, ◌≤◌, ◌⊎◌, inl, inr, Option, Some, None, ℤ, pos}
pub use Rattle.std.proofs.Common.{◌+ℤ◌, ◌-ℤ◌, ◌*ℤ◌, ◌≤ℤ◌, List, length, refl, sym, ap, ◌∙◌, subst, arith, Bool, true}
pub use Rattle.std.proofs.Common.{false, cond, [], ◌∷◌, ◌++◌, map, reverse, append_assoc, length-append, ◌*◌, neg_ℤ}
pub use Rattle.std.proofs.Common.{not, get_or, rules, vec_capacity, take, Less, Equal, Greater}
pub use Rattle.std.proofs.Math.IntN.{*ℤ-zero}
pub use Rattle.std.proofs.Math.Nat.{mul-le-mul_left, mul-le-mul_right}
pub use Rattle.std.proofs.lemmas.Bool.{cases_lt, cases_Bool, and_parts, and_from, not-true, not-false}
pub use Rattle.std.proofs.lemmas.Int.{ints, to_z-of_z}
pub use Rattle.std.proofs.lemmas.List.{reverse-append, map-append, length-reverse, length-map, length-replicate}
pub use Rattle.std.proofs.lemmas.List.{with_items_is}
pub use Rattle.std.proofs.lemmas.Option.{slice_get-get_or, slice_get_within, slice_get_read}
pub use Rattle.std.specs.Int.{w64}
pub use Rattle.std.specs.Prelude.{IsTrue, IsFalse, IfSome, slice_index, slice_index_or, slice_get, IfNone, FitsSigned}
pub use Rattle.unit_table.specs.Laws.{CappedRowsAreRows, StartsAreWithinLimits, LimitsAreAboveTheAmount}
pub use Rattle.unit_rows.specs.Limits.{capped}
pub use Rattle.unit_table.specs.Limits.{IsRowWithin, IsFilledWithin, IsEndWithin, EachCostsMore}
pub use Rattle.unit_table.specs.Live.{HaveRoom, AreTraces, left_of, left_at}
pub use Rattle.unit_rows.specs.Rows.{row_at, cost_at, first_at, before_at, HasEntryAtMost, IsWithinTimes}
pub use Rattle.unit_table.specs.RunningSpells.{CanBacktrack, since}
pub use Rattle.unit_rows.specs.Spells.{IsSpell, start_cost_after, IsOffRun, paid, on_time, off_time, IsGap}
pub use Rattle.unit_rows.specs.Spells.{period_cost}
pub use Rattle.unit_table.specs.Tables.{IsEnded, IsLatest, IsComplete}
pub use Rattle.unit_rows.specs.Ends.{IsStarted, IsEntryAfter, IsLeastEnd, HasAtMost}
pub use Rattle.unit_table.specs.declared.running_spell.RunningSpell.{RunningSpell}
pub use Rattle.unit_rows.specs.declared.table.Ended.{Ended}
pub use Rattle.unit_rows.specs.declared.table.Entry.{Entry}
pub use Rattle.slope_list.specs.Slopes.{room_of, space_of}
pub use Rattle.spell_run.specs.Entries.{IsOnFromTo, IsSameOutside}
pub use Rattle.std.proofs.lemmas.Nat.{mul-le}
pub use Rattle.spell_run.specs.Logs.{left_from, entry_at}
pub use Rattle.spell_run.specs.declared.notes.Logged.{Logged}
pub use Rattle.spell_run.specs.Notes.{IsSpellNoted}
pub use Rattle.spell_run.specs.Spells.{IsBestDispatch, IsFirstDispatch, over_min, IsDispatch, IsLeastSpell}
pub use Rattle.spell_run.specs.Spells.{spell_cost}
pub use Rattle.spell_run.proofs.Arithmetic.{signed}
pub use Rattle.unit_rows.specs.NetCosts.{net_cost}
pub use Rattle.spell_run.specs.declared.notes.Passed.{Passed}
pub use Rattle.plain_lists.proofs.IntLaws.{sum_below-same, sum_below-add, sum_below-sub}
pub use Rattle.uc_model.specs.BoundLaws.{StartCostsAreWithin, EarningsAreWithin}
pub use Rattle.uc_model.specs.Data.{ThermalUnit, PriceLists, Schedule, Thermal, AnyUnit, Market, units}
pub use Rattle.uc_model.specs.Data.{NamedThermalUnit, Flat, Bid, NamedRenewableUnit, NamedBidUnit}
pub use Rattle.uc_model.specs.Earnings.{earnings, IsBest, start_cost_of, IsTop}
pub use Rattle.uc_model.specs.Envelope.{envelope}
pub use Rattle.uc_model.specs.Limits.{IsThermalUnit, ArePrices}
pub use Rattle.uc_model.specs.PlainUnits.{thermal_of, prices_of, schedule_of, named_thermal_of}
pub use Rattle.uc_model.specs.Schedules.{on_in, power_in, reserve_in, IsSchedule, IsThermalFeasible, above_min}
pub use Rattle.uc_model.specs.Schedules.{above_with_reserve, starts_in, time_down, cap_of, IsPeriod, KeepsDispatch}
pub use Rattle.uc_model.specs.Schedules.{stops_in, KeepsCommitment, mark_in, IsFeasible}
pub use Rattle.plain_lists.specs.Sums.{int_at}
pub use Rattle.uc_model.specs.Ties.{ComesBefore, IsLeast}
pub use Rattle.uc_model.specs.declared.units.Mark.TheVariants.{MustOff, MustOn}
pub use Rattle.unit_program.specs.Backs.{IsSameIn, IsZeroOff, IsWritten, IsWrittenBack}
pub use Rattle.unit_program.specs.Builds.{IsUpTo, IsIdle, IsDispatchStep, MayStop}
pub use Rattle.unit_program.specs.Steps.{IsStep, time_up, held}
pub use Rattle.unit_program.specs.Ties.{IsFirstUpTo, IsRival, HasSameFlags, HasSamePowers, IsFirstBeside}
pub use Rattle.std.proofs.lemmas.List.Elements.{All-nil, All-cons}
pub use Rattle.std.specs.List.{AllZip, All}
pub use Rattle.unit_program.specs.Tops.{HasSchedules, CanAnswer, points_of, IsBenchOver}
pub use Rattle.plain_lists.proofs.ListLaws.{item_of, map_item}
pub use Rattle.uc_model.specs.PlainCases.{market_of, unit_of}
pub use Rattle.uc_model.specs.declared.units.Answered.{Answered}
pub use Rattle.uc_model.specs.declared.units.NamedUnit.{NamedUnit}
