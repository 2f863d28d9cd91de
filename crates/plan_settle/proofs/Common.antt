-- The names that the proofs of this crate take from its specs and from other crates, passed on from one place.
pub use Rattle.std.proofs.Common.{◌≡◌, ℕ, zero, suc, ◌+◌, ◌-◌, ◌<◌, ◌≤◌, ℤ, ◌-ℤ◌, ◌≤ℤ◌, Some}
pub use Rattle.std.proofs.Common.{List, [], ◌∷◌, ◌++◌, length, map, take, get_or, refl, sym, ap, ◌∙◌, subst, arith}
pub use Rattle.std.proofs.Common.{rules, w64, FitsSigned, length-append, Bool, true, false}
pub use Rattle.std.proofs.lemmas.Int.{ints, to_z-of_z}
pub use Rattle.std.proofs.lemmas.List.{take_all, length-map, map_push, length-replicate}
pub use Rattle.std.proofs.lemmas.List.FromFn.{length-map-range_with_len}
pub use Rattle.std.specs.Int.{w128}
pub use Rattle.std.specs.List.{All, AllZip}
pub use Rattle.std.specs.Prelude.{slice_get, slice_index_or}
pub use Rattle.plain_lists.proofs.ListLaws.{length_same, length-zip_with, all_nil, all_cons, none_some, same_item}
pub use Rattle.plain_lists.proofs.ListLaws.{head_of, tail_of}
pub use Rattle.plain_lists.specs.Sums.{int_at, total, zip_with}
pub use Rattle.uc_model.specs.Data.{AnyUnit, PriceLists, Schedule, Market, units, unit_count, ThermalUnit}
pub use Rattle.uc_model.specs.Data.{NamedThermalUnit, Thermal}
pub use Rattle.uc_model.specs.Earnings.{IsTop, earnings}
pub use Rattle.uc_model.specs.Limits.{IsEarned, IsSum, IsUnit, IsMarket, ArePrices}
pub use Rattle.uc_model.specs.PlainCases.{market_of, schedules_of, proposal_of}
pub use Rattle.uc_model.specs.PlainUnits.{prices_of, schedule_of, named_thermal_of, named_renewable_of, named_bid_of}
pub use Rattle.uc_model.specs.PlainUnits.{thermal_of}
pub use Rattle.uc_model.specs.PlanLaws.{UnitNumbersGoByKind}
pub use Rattle.uc_model.specs.PriceRule.{Proposal, chosen_number}
pub use Rattle.uc_model.specs.Runs.{Fits}
pub use Rattle.uc_model.specs.Schedules.{IsFeasible, reserve_in, on_in, mark_in, IsPeriod, IsThermalFeasible}
pub use Rattle.uc_model.specs.Systems.{IsFeasiblePlan, worth_of_demand, IsSettled}
pub use Rattle.uc_model.specs.Systems.{total_power, total_reserve}
pub use Rattle.uc_model.specs.declared.units.Answered.{Answered}
pub use Rattle.unit_program.specs.Answers.{IsAnswerAt}
pub use Rattle.unit_program.specs.Tops.{IsBenchOver, AreTops}
pub use Rattle.plan_settle.specs.Answers.{AreAnswersTo}
pub use Rattle.plan_settle.specs.Rooms.{AreOver}
pub use Rattle.std.proofs.lemmas.Option.{slice_get_within, get_or_from_slice_get, none-some, slice_get-get_or}
pub use Rattle.std.proofs.lemmas.Option.{same_Some, slice_get-map}
pub use Rattle.plan_settle.specs.FixedCase.{held_mark, held_unit, held_named, fixed_market}
pub use Rattle.plain_lists.specs.Reserved.{items_in}
pub use Rattle.board_core.specs.Boards.{kept_answer}
pub use Rattle.board_core.specs.Setups.{IsSetup}
pub use Rattle.board_store.specs.Board.{Content, IsLegalHistory}
pub use Rattle.board_store.specs.Bounds.{RowsOfHistoryAreWithinLimits}
pub use Rattle.board_store.specs.Calls.{own_rows, has_finished}
pub use Rattle.board_store.specs.Laws.{FinishedHasRow}
pub use Rattle.plan_settle.specs.Ended.{IsEnded}
pub use Rattle.right_report.specs.Laws.{OneIsChosen}
pub use Rattle.right_report.specs.RecordReport.{SettlementHasEntryForEachUnit, IsSettledRecord, AnswersToRowEarnTheMost}
pub use Rattle.price_settle.specs.declared.settlement.Settlement.{Settlement}
