-- The names that the proofs of this crate take from its specs and from other crates, passed on from one place.
pub use Rattle.std.proofs.Common.{◌≡◌, ℕ, zero, suc, ◌+◌, ◌<◌, ◌≤◌, inl, inr, ℤ, pos, ◌-ℤ◌, List, [], ◌∷◌, length, take}
pub use Rattle.std.proofs.Common.{get_or, refl, sym, ap, ◌∙◌, subst, arith, ◌-◌, ◌≤ℤ◌, false, true, negsuc, ◌+ℤ◌, Bool}
pub use Rattle.std.proofs.Common.{if◌then◌else◌, unsigned_abs, ◌++◌, map, replicate, length-append, Some, slice_get}
pub use Rattle.std.proofs.Common.{◌&&◌, cond, None, Option, ◌⊎◌, to_z, of_z, drop, rules}
pub use Rattle.std.proofs.lemmas.Bool.{false≢true, cases_lt, lt-ltb, cond_both, leb-false, true≢false, cases_Bool}
pub use Rattle.std.proofs.lemmas.Int.{ints, clamps, by_lt_z, to_z-of_z}
pub use Rattle.std.proofs.lemmas.List.{take_all, take_more_same, length-map, length-replicate, get_or-replicate}
pub use Rattle.std.proofs.lemmas.List.{get_or_default, same_lists, length-take, get_or-map, get_or_append_left}
pub use Rattle.std.proofs.lemmas.List.{get_or_push, take-append-le, map-append, take_at, drop_at}
pub use Rattle.std.proofs.lemmas.Option.{same_Some, slice_get-map, slice_get-get_or, slice_get_within}
pub use Rattle.std.proofs.lemmas.Option.{get_or_from_slice_get}
pub use Rattle.std.proofs.lemmas.Cmp.{int_ranked, int_cmp_total, tied_itself, on_total, then_total, back_total}
pub use Rattle.std.proofs.lemmas.Cmp.{nat_list_cmp_total, upto}
pub use Rattle.std.specs.Int.{w128}
pub use Rattle.std.specs.List.{AllZip, All, range_with_len, list_all, position_or_len, flat_map}
pub use Rattle.std.specs.Option.{option_map, option_map_or}
pub use Rattle.std.specs.Prelude.{IsTrue, IsFalse, slice_index, slice_index_or, int_le, unwrap_or, nat_le, FitsSigned}
pub use Rattle.std.specs.Prelude.{◌<ℤ◌}
pub use Rattle.std.specs.Cmp.{IsTotalOrder}
pub use Rattle.std.specs.Ordering.{MatchOrdering, nat_cmp, int_cmp, is_gt, on, then_cmp, flip_args, ordering_then}
pub use Rattle.std.specs.Ordering.{ordering_reverse}
pub use Rattle.std.specs.declared.cmp.Ordering.{Ordering}
pub use Rattle.std.specs.declared.cmp.Ordering.TheVariants.{Less, Equal, Greater}
pub use Rattle.board_core.specs.Setups.{IsSetup}
pub use Rattle.board_store.specs.Board.{Content, IsLegalHistory, Answer, rules_of, row_of, schedules_in}
pub use Rattle.board_store.specs.Bounds.{RowsOfHistoryAreWithinLimits, IsRowWithin}
pub use Rattle.board_store.specs.Calls.{own_rows, has_finished}
pub use Rattle.board_store.specs.Laws.{FinishedHistoryIsWholeRun, FinishedHasRow, AnswersOfHistoryFitTheirTasks}
pub use Rattle.board_store.specs.Laws.{EachRowHasAnswerOfEachUnit}
pub use Rattle.board_store.specs.Rounds.{posts, answer_at, answers, prices_at}
pub use Rattle.right_report.specs.Told.{IsTold}
pub use Rattle.right_report.specs.Laws.{OneRun, RightReportHasForm, OneIsChosen, OneRightReport}
pub use Rattle.right_report.specs.Laws.{ReportPaymentsMakeUpTheGap}
pub use Rattle.right_report.specs.RecordReport.{lines_from, chosen_of, value_of, line_of, IsSettledRecord}
pub use Rattle.right_report.specs.RecordReport.{ReportOfFinishedBoardIsRight, SettlementHasEntryForEachUnit}
pub use Rattle.right_report.specs.RecordReport.{AnswersToRowEarnTheMost}
pub use Rattle.uc_model.specs.Data.{thermal_names, renewable_names, bid_names, AnyUnit, PriceLists, Schedule, Market}
pub use Rattle.uc_model.specs.Data.{units, ThermalUnit, RenewableUnit, BidUnit, Thermal, Flat, Bid, NamedThermalUnit}
pub use Rattle.uc_model.specs.Data.{NamedRenewableUnit, NamedBidUnit, unit_count}
unfoldable pub use Rattle.right_report.specs.RecordReport.{report_of}
pub use Rattle.right_report.specs.RightReport.{unit_lines, HasNames, IsRightReport}
pub use Rattle.report_form.specs.Laws.{IsFlatLine}
pub use Rattle.report_form.specs.ReportText.{UnitLine, Report}
pub use Rattle.plain_lists.proofs.ListLaws.{length_same, length-zip_with}
pub use Rattle.uc_model.specs.Earnings.{IsTop, earnings, IsBest}
pub use Rattle.uc_model.specs.Laws.{OneLeast, PaymentsMakeUpTheGap}
pub use Rattle.uc_model.specs.PlainCases.{proposal_of}
pub use Rattle.uc_model.specs.PriceRule.{Proposal, no_prices, is_settled, first_greatest, start_price, start_prices}
pub use Rattle.uc_model.specs.PriceRule.{opening_prices_of, stepped_prices, age, next_prices, price_rule, chosen_number}
pub use Rattle.uc_model.specs.Runs.{Fits, HasTotals, IsNextRow, AreRightRows, IsRun}
pub use Rattle.uc_model.specs.Schedules.{on_in, above_min, above_with_reserve, starts_in, stops_in, mark_in, cap_of}
pub use Rattle.uc_model.specs.Schedules.{width_of, blocks_at, IsPeriod, KeepsCommitment, KeepsDispatch, IsSchedule}
pub use Rattle.uc_model.specs.Schedules.{IsThermalFeasible, IsRenewableFeasible, IsBidFeasible, IsFeasible}
pub use Rattle.plain_lists.specs.Sums.{total, int_at, zip_with}
pub use Rattle.uc_model.specs.Systems.{worth_of_demand, IsDualValue, plan_cost, IsSettled}
pub use Rattle.uc_model.specs.declared.cases.Row.{Row}
pub use Rattle.price_settle.specs.declared.settlement.Settlement.{Settlement}
pub use Rattle.right_report.specs.Existence.{AreFeasible, DualValuesExist, BestResponsesExist, RunsExist}
