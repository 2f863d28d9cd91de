-- The names that the proofs of this crate take from its specs and from other crates, passed on from one place.
pub use Rattle.std.proofs.Common.{◌≡◌, ℕ, suc, ◌-◌, ◌<◌, ◌≤◌, ◌⊎◌, inl, inr, Bool, true, false, cond, Some, None, ℤ}
pub use Rattle.std.proofs.Common.{pos, ◌+ℤ◌, ◌-ℤ◌, ◌*ℤ◌, ◌≤ℤ◌, List, [], ◌∷◌, ◌++◌, map, length, refl, sym, ap, ◌∙◌}
pub use Rattle.std.proofs.Common.{subst, arith, reverse, neg_ℤ, zero, ◌+◌, ◌^◌, negsuc, take, drop, get_or}
pub use Rattle.std.proofs.Common.{append_assoc, ◌*◌, length-append, IsTrue, rules, replicate, ◌/◌, ◌%◌}
pub use Rattle.std.proofs.Math.IntN.{*ℤ_comm, *ℤ-zero, suc_ℤ-*ℤ, zero-*ℤ, +ℤ_one, +ℤ_idr, +ℤ_idl}
pub use Rattle.std.proofs.Math.Nat.{two-pow-succ, mul-le-mul_left}
pub use Rattle.std.proofs.lemmas.Bool.{cases_lt, false≢true}
pub use Rattle.std.proofs.lemmas.Int.{ints, clamps, to_z-of_z, to_z_pos}
pub use Rattle.std.proofs.lemmas.List.{length-reverse, get_or-reverse, get_or_past, take_more, at_drop_more, length-map}
pub use Rattle.std.proofs.lemmas.List.{get_or_default}
pub use Rattle.std.proofs.lemmas.List.Elements.{All-nil, All-cons, All-append, All-map}
pub use Rattle.std.specs.Int.{int_min, w64}
pub use Rattle.std.specs.List.{All, find, AllZip, zip, fold, flat_map}
pub use Rattle.std.specs.Option.{option_map_or, option_map}
pub use Rattle.std.specs.Prelude.{nat_le, slice_get, slice_index, slice_index_or, FitsSigned, IsFalse}
pub use Rattle.uc_model.specs.BoundLaws.{GivesWithin, StartCostsAreWithin, PowerCostsAreWithin, OutputsAreWithin}
pub use Rattle.uc_model.specs.BoundLaws.{UnitScheduleCostsAreWithin, EarningsAreWithin, most_given, least_given}
pub use Rattle.uc_model.specs.BoundLaws.{UnitsAreWithin}
pub use Rattle.uc_model.specs.BoundLaws.{PowerAndReserveTotalsAreWithin, EarnedSumsAreWithin, PlanCostsAreWithin}
pub use Rattle.uc_model.specs.BoundLaws.{DemandWorthIsWithin}
pub use Rattle.uc_model.specs.BoundLaws.{DualValuesAreWithin}
pub use Rattle.uc_model.specs.Data.{ThermalUnit, BidUnit, AnyUnit, Thermal, Flat, Bid, PriceLists, Schedule, Market}
pub use Rattle.uc_model.specs.Data.{units, NamedThermalUnit, NamedRenewableUnit, NamedBidUnit, unit_count}
pub use Rattle.uc_model.specs.Data.{RenewableUnit, thermal_names, renewable_names, bid_names, unit_names, horizon_of}
pub use Rattle.uc_model.specs.Earnings.{start_cost_of, worth_of, supply_in, revenue, cost_of, earnings, IsTop}
pub use Rattle.uc_model.specs.Earnings.{start_costs}
pub use Rattle.uc_model.specs.Envelope.{line_at, least_line, IsEnvelope, rises_after, best_price}
unfoldable pub use Rattle.uc_model.specs.Envelope.{envelope}
pub use Rattle.plain_lists.specs.Ranges.{IsFrom}
pub use Rattle.uc_model.specs.Limits.{IsLag, IsStartCost, IsPoint, Spans, IsThermalUnit, IsBlock, IsBidUnit, IsUnit}
pub use Rattle.uc_model.specs.Limits.{ArePrices, IsMarket, IsUnitCost, IsEarned, price_limit}
pub use Rattle.uc_model.specs.PlainUnits.{thermal_of}
pub use Rattle.uc_model.specs.PriceRule.{start_prices, is_settled, Proposal, full_load_price, price_rule, move_of}
pub use Rattle.uc_model.specs.PriceRule.{chosen_number, squared_length}
pub use Rattle.uc_model.specs.Refusals.{refusals, thermal_refusals}
pub use Rattle.plain_lists.specs.Reserved.{Reserved, items_in}
pub use Rattle.uc_model.specs.Schedules.{power_in, reserve_in, starts_in, time_down, IsPeriod, blocks_at, width_of}
pub use Rattle.uc_model.specs.Schedules.{IsFeasible, IsThermalFeasible, cap_of, IsSchedule, on_in, above_min}
pub use Rattle.uc_model.specs.Schedules.{above_with_reserve, stops_in, mark_in}
pub use Rattle.plain_lists.specs.Sums.{int_at, total, sum_below, zip_with, clamped}
pub use Rattle.uc_model.specs.Systems.{total_power, total_reserve, IsFeasiblePlan, plan_cost, worth_of_demand}
pub use Rattle.uc_model.specs.Systems.{IsDualValue, surplus_value, IsSettled}
pub use Rattle.uc_model.specs.TaskLists.{lag_numbers, point_numbers, mark_number, period_numbers, fixed_numbers}
pub use Rattle.uc_model.specs.TaskLists.{list_numbers, unit_numbers, task_numbers}
pub use Rattle.uc_model.specs.Ties.{tie_numbers, ComesBefore}
pub use Rattle.uc_model.specs.declared.kinds.RuleCode.TheVariants.{Window, MustRun, BidRange, Balance, Initial, MinUp}
pub use Rattle.uc_model.specs.declared.kinds.RuleCode.TheVariants.{StopCap}
pub use Rattle.uc_model.specs.declared.units.Block.{Block}
pub use Rattle.uc_model.specs.declared.units.Lag.{Lag}
pub use Rattle.uc_model.specs.declared.units.Mark.{Mark}
pub use Rattle.uc_model.specs.declared.units.Mark.TheVariants.{Free, MustOff, MustOn}
pub use Rattle.uc_model.specs.declared.units.Point.{Point}
