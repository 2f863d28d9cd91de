-- The names that the proofs of this crate take from its specs and from other crates, passed on from one place.
pub use Rattle.std.proofs.Common.{◌≡◌, ℕ, zero, suc, ◌+◌, ◌-◌, ◌*◌, ◌≤◌, refl, arith, ◌<◌, ℤ, pos, ◌+ℤ◌, ◌-ℤ◌, ◌≤ℤ◌}
pub use Rattle.std.proofs.Common.{Bool, true, false, not, ◌&&◌, if◌then◌else◌, length, slice_index, slice_index_or, ap}
pub use Rattle.std.proofs.Common.{sym, ◌∙◌, ◌/◌, List, [], ◌∷◌, map, ◌++◌, append_assoc, replicate, get_or, subst, inl}
pub use Rattle.std.proofs.Common.{inr, to_z, of_z, ◌%◌, zero-add, take}
pub use Rattle.std.proofs.Math.Nat.{div-le_self, mul-le-mul_left, min-le_left, min-le_right}
pub use Rattle.std.proofs.lemmas.Int.{ints, clamps, to_z-of_z}
pub use Rattle.std.proofs.lemmas.List.{map_push, length-replicate, get_or-replicate, append-nil, length-map}
pub use Rattle.std.proofs.lemmas.List.{get_or_past}
pub use Rattle.std.proofs.lemmas.List.Elements.{All-map, All-nil, All-weaker, All-replicate}
pub use Rattle.std.proofs.lemmas.List.FromFn.{map-range_with_len_more, fill_by_all, length-map-range_with_len}
pub use Rattle.std.proofs.lemmas.List.FromFn.{get_or-map-range_with_len}
pub use Rattle.std.proofs.lemmas.List.Sums.{sum_by-cons, sum_by-append, sum_by-le}
pub use Rattle.std.proofs.lemmas.Nat.{mul-le, mod_below}
pub use Rattle.std.specs.List.{range_with_len, All, AllZip, sum_by}
pub use Rattle.case_make.specs.Drawn.{is_on, is_high, start_cost_of, point_of}
unfoldable pub use Rattle.case_make.specs.Drawn.{
  unit_draws,
  max_of,
  min_of,
  ramp_of,
  level_of,
  step_of,
  high_of,
  reserve_of,
  at_of,
  cost_of,
  unit_of,
  unit_schedule,
  capacity_at,
  most_at,
  most_powers,
  renewable_of,
  full,
  power_at,
  running,
  idle,
  lags_of,
}
pub use Rattle.case_make.specs.Grown.{AreSums, IsSmall, IsSteady, plan_of, IsSummed}
pub use Rattle.case_make.specs.Made.{name_of, power_sum, reserve_sum, unit_place, renewable_place}
unfoldable pub use Rattle.case_make.specs.Made.{
  named_unit,
  unit_plan,
  named_renewable,
  renewable_plan,
  renewable_units,
  renewable_plans,
  thermal_units,
  thermal_plan,
  demand_of,
  requirement_of,
  plan_from,
  market_from,
}
pub use Rattle.case_make.specs.Sizes.{AreDrawn, ArePowers, IsDrawn}
unfoldable pub use Rattle.case_make.specs.Words.{word_at, draw, moved_on, start_of}
pub use Rattle.case_make.specs.declared.draws.UnitDraws.{UnitDraws}
pub use Rattle.rand_pcg.specs.Lcg.{Lcg, next_state}
unfoldable pub use Rattle.rand_pcg.specs.Lcg.{state_after}
pub use Rattle.uc_model.specs.Data.{ThermalUnit, Schedule, NamedThermalUnit, NamedRenewableUnit, NamedBidUnit, Market}
pub use Rattle.uc_model.specs.Data.{AnyUnit, Thermal, Flat, units, RenewableUnit}
pub use Rattle.plain_lists.specs.Ranges.{IsFrom}
pub use Rattle.uc_model.specs.Limits.{IsPower, IsThermalUnit, IsRenewableUnit, IsBidUnit, IsMarket, IsLag, IsPoint}
pub use Rattle.uc_model.specs.Limits.{Spans, AreLagsOrdered, ArePointsOrdered}
pub use Rattle.uc_model.specs.PlainUnits.{schedule_of, named_thermal_of, named_renewable_of, named_bid_of}
pub use Rattle.uc_model.specs.Schedules.{on_in, above_min, above_with_reserve, starts_in, stops_in, mark_in, cap_of}
pub use Rattle.uc_model.specs.Schedules.{IsPeriod, KeepsCommitment, KeepsDispatch, IsThermalFeasible, reserve_in}
pub use Rattle.uc_model.specs.Schedules.{IsFeasible, IsRenewableFeasible}
pub use Rattle.plain_lists.specs.Sums.{int_at, total, zip_with}
pub use Rattle.uc_model.specs.declared.units.Mark.{Mark}
pub use Rattle.uc_model.specs.declared.units.Mark.TheVariants.{Free, MustOn, MustOff}
pub use Rattle.uc_model.specs.declared.units.Point.{Point}
