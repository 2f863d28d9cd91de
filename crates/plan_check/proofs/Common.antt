-- The names that the proofs of this crate take from its specs and from other crates, passed on from one place.
pub use Rattle.std.proofs.Common.{◌≡◌, ℕ, zero, suc, ◌+◌, ◌-◌, ◌<◌, Bool, true, false, cond, Some, None, refl, sym}
pub use Rattle.std.proofs.Common.{ap, ◌∙◌, arith, ◌≤◌, ℤ, pos, ◌+ℤ◌, ◌*ℤ◌, length, w64, FitsSigned, ◌⊎◌, inl, inr}
pub use Rattle.std.proofs.Common.{List, [], ◌∷◌, ◌++◌, take, drop, get_or, append_assoc, append-nil, ◌≤ℤ◌, ◌&&◌}
pub use Rattle.std.proofs.Common.{IsTrue, map, subst, length-drop, not, Option, neg_ℤ, ◌-ℤ◌, length-append}
pub use Rattle.std.proofs.Common.{length-take, IsFalse, rules, ◌*◌, to_z, of_z, is_ok}
pub use Rattle.std.proofs.lemmas.Int.{ints, clamps, to_z-of_z}
pub use Rattle.std.proofs.lemmas.List.{take_more, drop_more, take-append-drop, drop-drop, length-map, get_or-map}
pub use Rattle.std.proofs.lemmas.List.{take-map}
pub use Rattle.std.proofs.lemmas.List.Elements.{All-drop, All-append, All-map, All-take}
pub use Rattle.std.proofs.lemmas.Option.{get_or_from_slice_get}
pub use Rattle.std.proofs.lemmas.Result.{err_from_is_err_and}
pub use Rattle.std.specs.Int.{int_min}
pub use Rattle.std.specs.List.{flat_map, All, AllZip, filter_map, range_with_len, cons_option}
pub use Rattle.std.specs.Option.{option_and_then, option_map}
pub use Rattle.std.specs.Prelude.{slice_get, int_le, slice_index_or, nat_le, slice_index}
pub use Rattle.plan_check.specs.Costs.{sum_over, thermal_units, bid_units, worth_at, start_cost_at, production_at}
pub use Rattle.plan_check.specs.States.{run_broken, rule_refusals, IsStateIn, thermal_broken, told_shift}
pub use Rattle.plan_check.specs.Totals.{powers_at, reserves_at}
pub use Rattle.plain_lists.proofs.ListLaws.{none_some, same_item, head_of, tail_of, true_or_false, item_of, map_item}
pub use Rattle.plain_lists.proofs.ListLaws.{zip_item, front_item, sum_more, drop_item, drop-map}
pub use Rattle.uc_model.specs.Data.{ThermalUnit, Schedule, NamedThermalUnit, NamedRenewableUnit, NamedBidUnit}
pub use Rattle.uc_model.specs.Data.{AnyUnit, Thermal, Flat, Bid, RenewableUnit, BidUnit, Market, units, unit_count}
pub use Rattle.uc_model.specs.Earnings.{supply_in, cost_of, worth_of}
pub use Rattle.uc_model.specs.Laws.{HasPlanShape, FeasibleExactlyWithoutBrokenRule}
pub use Rattle.plain_lists.specs.Ranges.{IsFrom}
pub use Rattle.uc_model.specs.Limits.{IsThermalUnit, Spans, IsBlockList, IsBidUnit, IsPower, IsRenewableUnit}
pub use Rattle.uc_model.specs.PlainCases.{market_of, schedules_of}
pub use Rattle.uc_model.specs.PlainUnits.{schedule_of, thermal_of, named_thermal_of, bid_of, named_bid_of}
pub use Rattle.uc_model.specs.PlainUnits.{renewable_of, named_renewable_of}
pub use Rattle.uc_model.specs.Refusals.{same_flag, changed_in, min_up_broken, min_down_broken, Refusal, told}
pub use Rattle.uc_model.specs.Refusals.{renewable_broken, bid_broken, thermal_refusals, all_thermal, all_renewable}
pub use Rattle.uc_model.specs.Refusals.{all_bids, unless, balance_broken, reserve_broken, refusals, or_else}
pub use Rattle.uc_model.specs.Refusals.{must_run_broken, initial_broken, range_broken, start_broken, output_in}
pub use Rattle.uc_model.specs.Refusals.{stop_broken, ramp_up_broken, ramp_down_broken, mark_broken, window_broken}
pub use Rattle.plain_lists.specs.Reserved.{items_in}
pub use Rattle.uc_model.specs.Schedules.{on_in, power_in, IsPeriod, IsThermalFeasible, IsFeasible}
pub use Rattle.uc_model.specs.Schedules.{IsRenewableFeasible, IsBidFeasible, width_of, blocks_at, starts_in, stops_in}
pub use Rattle.uc_model.specs.Schedules.{reserve_in, above_min, above_with_reserve, mark_in, KeepsCommitment, cap_of}
pub use Rattle.uc_model.specs.Schedules.{KeepsDispatch, time_down}
pub use Rattle.plain_lists.specs.Sums.{int_at, total, sum_below}
pub use Rattle.uc_model.specs.Systems.{total_power, total_reserve, IsFeasiblePlan, plan_cost}
pub use Rattle.uc_model.specs.declared.kinds.RuleCode.TheVariants.{RenewableRange, BidRange, MustRun, Initial, MinUp}
pub use Rattle.uc_model.specs.declared.kinds.RuleCode.TheVariants.{MinDown, Range, StartCap, StopCap, RampUp}
pub use Rattle.uc_model.specs.declared.kinds.RuleCode.TheVariants.{RampDown, Window, Balance, Reserve}
pub use Rattle.uc_model.specs.declared.units.Block.{Block}
pub use Rattle.uc_model.specs.declared.units.Response.{Response}
