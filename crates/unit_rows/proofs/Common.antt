-- The names that the proofs of this crate take from its specs and from other crates, passed on from one place.
pub use Rattle.std.proofs.Common.{◌≡◌, ℕ, zero, suc, ◌<◌, ◌≤◌, inl, inr, Option, Some, None, ℤ, pos, ◌≤ℤ◌, List, []}
pub use Rattle.std.proofs.Common.{length, refl, sym, ap, ◌∙◌, subst, get_or-set_same, get_or-set_other, arith, ◌+◌, ◌-◌}
pub use Rattle.std.proofs.Common.{◌⊎◌, Bool, true, false, cond, ◌+ℤ◌, ◌≢◌, ◌*◌, ◌<ℤ◌, ◌∷◌, rules, to_z, of_z, ◌-ℤ◌}
pub use Rattle.std.proofs.Common.{◌*ℤ◌, map, neg_ℤ, get_or, set, length-set}
pub use Rattle.std.proofs.lemmas.Bool.{cases_eq, cases_lt}
pub use Rattle.std.proofs.lemmas.Int.{ints, to_z-of_z}
pub use Rattle.std.specs.Int.{w64, int_max, int_min}
pub use Rattle.std.specs.Option.{option_map, option_map_or, option_or}
pub use Rattle.std.specs.Prelude.{IsTrue, slice_set, int_le, IfSome, slice_get, IsFalse, IfNone, reverse, nat_le}
pub use Rattle.std.specs.Prelude.{slice_index_or, FitsSigned, int_lt}
pub use Rattle.unit_rows.specs.Origins.{IsRising, IsRipe, IsOrigin, HasOrigin, AreInOrder, AreRight, AreOrigins}
pub use Rattle.unit_rows.specs.Origins.{IsOriginPut}
pub use Rattle.unit_rows.specs.Rows.{row_at, cost_at, AreWithin, IsFirstRow, HasEntryAtMost, IsWithinTimes, IsPut}
pub use Rattle.unit_rows.specs.Spells.{StopsAtOnce, off_time, IsOffRun, IsGap, start_cost_after}
pub use Rattle.unit_rows.specs.Ends.{HasAtMost, IsStarted, IsLeastEntry, IsEntry}
pub use Rattle.unit_rows.specs.declared.origins.Origin.{Origin}
pub use Rattle.unit_rows.specs.declared.table.Ended.{Ended}
pub use Rattle.unit_rows.specs.declared.table.Entry.{Entry}
pub use Rattle.uc_model.specs.Data.{ThermalUnit, PriceLists, Schedule}
pub use Rattle.plain_lists.specs.Ranges.{IsFrom}
pub use Rattle.uc_model.specs.Limits.{IsThermalUnit, IsLag, IsOutput, IsPoint, ArePointsOrdered, Spans}
pub use Rattle.uc_model.specs.PlainUnits.{thermal_of, prices_of}
pub use Rattle.uc_model.specs.Schedules.{mark_in, power_in, reserve_in}
pub use Rattle.uc_model.specs.declared.units.Lag.{Lag}
pub use Rattle.uc_model.specs.declared.units.Mark.TheVariants.{MustOn}
pub use Rattle.std.proofs.Math.IntN.{*ℤ_comm}
pub use Rattle.unit_rows.proofs.Arithmetic.{signed, bounded}
pub use Rattle.std.proofs.lemmas.Option.{slice_get-get_or, get_or_from_slice_get}
pub use Rattle.std.specs.List.{All, fold}
pub use Rattle.unit_rows.specs.Limits.{IsInRange, AreLimits}
pub use Rattle.unit_rows.specs.NetCosts.{net_cost}
pub use Rattle.plain_lists.proofs.IntLaws.{mul-mono_of, mul-add, mul-sub}
pub use Rattle.plain_lists.proofs.SignedLaws.{IsWithin, stored, stored_is, fits64, product_within}
pub use Rattle.uc_model.specs.Envelope.{envelope}
pub use Rattle.plain_lists.specs.Sums.{int_at}
pub use Rattle.uc_model.specs.declared.units.Point.{Point}
pub use Rattle.unit_rows.specs.Nets.{HasLeastNet, AreKnown}
