-- The names that the proofs of this crate take from its specs and from other crates, passed on from one place.
pub use Rattle.std.proofs.Common.{◌≡◌, ℕ, ◌<◌, ◌≤◌, Bool, true, false, cond, ◌⊎◌, inl, inr, ◌||◌, ◌==◌, ◌↔◌, Option}
pub use Rattle.std.proofs.Common.{Some, None, List, [], ◌∷◌, ◌++◌, length, refl, ap, ◌∙◌, arith, length-append, sym}
pub use Rattle.std.proofs.Common.{subst, suc, ◌-◌, get_or, zero, ◌+◌, ◌*◌, ◌&&◌, map, ℤ, pos, ◌+ℤ◌, ◌*ℤ◌, unsigned_abs}
pub use Rattle.std.proofs.Common.{if◌then◌else◌, ◌≤ℤ◌, ◌<ℤ◌, negsuc, neg_ℤ, ◌-ℤ◌, ◌/◌, take, int_le, slice_index}
pub use Rattle.std.proofs.Math.Path.{fun_ext}
pub use Rattle.std.proofs.lemmas.Bool.{false≢true, le-leb, leb-true, cases_lt}
pub use Rattle.std.proofs.lemmas.Bool.Decides.{nat_tests}
pub use Rattle.std.proofs.lemmas.List.{append_cancel_left, append-nil, length-map, length-replicate, length-take}
pub use Rattle.std.proofs.lemmas.List.{get_or-map, get_or-take, length-take-le, take_all, take-take}
pub use Rattle.std.proofs.lemmas.List.Elements.{filter-append, All-map, All-head, All-tail, All-replicate}
pub use Rattle.std.proofs.lemmas.List.Elements.{recursion_from_All}
pub use Rattle.std.proofs.lemmas.List.Folds.{list_any-append, list_all_at}
pub use Rattle.std.proofs.lemmas.List.FromFn.{length-range_with_len, length-map-range_with_len}
pub use Rattle.std.proofs.lemmas.List.FromFn.{get_or-map-range_with_len}
pub use Rattle.std.proofs.lemmas.List.Sums.{prefix_len_passes}
pub use Rattle.std.specs.List.{list_any, filter, flat_map, range_with_len, list_all, All, AllZip, zip, AllByRecursion}
pub use Rattle.std.specs.Option.{option_map_or, option_map}
pub use Rattle.std.specs.Prelude.{nat_le, nat_lt, not, is_some, is_none, slice_get, IsUtf8, unwrap_or, IsFalse}
pub use Rattle.board_store.specs.Board.{Answer, rules_of, IsRight, Setup, row_of}
pub use Rattle.board_store.specs.Calls.{differs_from}
pub use Rattle.board_store.specs.Rounds.{Rules, Event, Given, Taken, Closing, Stopped, is_halt_of, holders, Posts}
pub use Rattle.board_store.specs.Rounds.{with_post, is_closed, prices_at, ClaimReply, Finished, Halted, GivenTask}
pub use Rattle.board_store.specs.Rounds.{NotYet, claim_reply, with_claim, events_after_claim, PostReply, OtherProposal}
pub use Rattle.board_store.specs.Rounds.{OtherUnit, OtherContent, Doubled, OtherHolder, TakenPost, is_holder}
pub use Rattle.board_store.specs.Rounds.{post_reply, post_event, with_answer, events_after_post, events_after_halt}
pub use Rattle.board_store.specs.Rounds.{IsPost, IsNext, IsLegal, sooner, first_some, given_by, posted_by, is_halt}
pub use Rattle.board_store.specs.Rounds.{Holders, is_finished, next_task, claim_from, GoesOn, rows_of, rows_to}
pub use Rattle.board_store.specs.Rounds.{closed_front, free_front, only_at, posts, opened}
pub use Rattle.board_store.specs.TaskDifference.{difference, Difference}
pub use Rattle.board_store.specs.Words.{IsOpenTask}
pub use Rattle.law_parts.specs.Counts.{is_claim, is_post, claims_in, posts_in, halts_in}
pub use Rattle.law_parts.specs.BoardLaws.{HaltsChangeNothing, CallsStayLegal, StepsAreMachine, PostsMean}
pub use Rattle.law_parts.specs.BoardLaws.{EventsAreAtMost}
pub use Rattle.law_parts.specs.OneCaller.{HeldIsTaken, IsBetween, ClaimsAreGiven, GivenIsTaken}
pub use Rattle.law_parts.specs.Words.{no_difference, IsMachineStep, PostSays, IsClosed, IsOpen, Means}
pub use Rattle.uc_model.specs.Data.{units, AnyUnit, PriceLists, Market, Schedule, Thermal, Flat, Bid, ThermalUnit}
pub use Rattle.uc_model.specs.Data.{RenewableUnit, BidUnit, NamedThermalUnit, NamedRenewableUnit, NamedBidUnit}
pub use Rattle.uc_model.specs.Data.{thermal_names, renewable_names, bid_names, unit_names}
pub use Rattle.uc_model.specs.PriceRule.{no_prices, Proposal, start_price, start_prices, opening_prices_of}
pub use Rattle.uc_model.specs.PriceRule.{stepped_prices, move_of, squared_length, energy_direction, reserve_direction}
pub use Rattle.uc_model.specs.PriceRule.{age, next_prices, price_rule, first_greatest, chosen_number, is_settled}
pub use Rattle.uc_model.specs.Runs.{Fits, IsNextRow, HasTotals, IsRun}
pub use Rattle.uc_model.specs.TaskLists.{task_numbers}
pub use Rattle.std.proofs.Math.IntN.{*ℤ-zero, *ℤ_comm, zero-*ℤ, pos-*ℤ-pos, *ℤ-negsuc, pred_ℤ-*ℤ, ℤ_ind}
pub use Rattle.std.proofs.Math.Nat.{div-lt_iff_lt-mul, mul_comm}
pub use Rattle.std.proofs.lemmas.Int.{ints, clamps, by_lt_z}
pub use Rattle.std.proofs.lemmas.Option.{slice_get_within, slice_get-get_or, get_or_from_slice_get}
pub use Rattle.std.specs.Int.{int_max}
pub use Rattle.plain_lists.proofs.IntLaws.{mul-sub, mul-add, mul-mono_of, sum_below-le, sum_below-same, sum_below-add}
pub use Rattle.plain_lists.proofs.IntLaws.{sum_below-zero, sum_below-sub, total-sum_below, total-mul}
pub use Rattle.plain_lists.proofs.ListLaws.{head_of, tail_of}
pub use Rattle.plain_lists.proofs.SignedLaws.{clamped_from}
pub use Rattle.plain_lists.specs.Ranges.{IsFrom}
pub use Rattle.plain_lists.specs.Sums.{int_at, total, floor_div, sum_below, clamped, zip_with}
pub use Rattle.uc_model.specs.Earnings.{cost_of, supply_in, earnings, revenue, IsTop}
pub use Rattle.uc_model.specs.Limits.{IsMarket, ArePrices, price_limit, IsUnit, IsTotal, IsBlockList, IsRenewableUnit}
pub use Rattle.uc_model.specs.Limits.{IsBidUnit, IsHorizon, IsEarned, IsWorth, IsSum}
pub use Rattle.uc_model.specs.Schedules.{reserve_in, IsThermalFeasible, blocks_at, IsFeasible, IsSchedule}
pub use Rattle.uc_model.specs.Systems.{IsDualValue, total_power, total_reserve, worth_of_demand, plan_cost, IsSettled}
pub use Rattle.uc_model.specs.declared.units.Block.{Block}
pub use Rattle.gap_proof.specs.Candidates.{RowRange, range_weights, candidates, prices_of_row, IsFirstLeast}
pub use Rattle.gap_proof.specs.CertifiedBound.{slope_at, height_of, most_over, price_at, lowest_price, weighted}
pub use Rattle.gap_proof.specs.CertifiedBound.{low_end, high_end, AreWeights}
unfoldable pub use Rattle.gap_proof.specs.CertifiedBound.{certified_bound}
pub use Rattle.gap_proof.specs.MixtureBound.{weighed, mixture_cost, lack, short, best_sold, best_bought, added}
pub use Rattle.gap_proof.specs.MixtureBound.{most_energy, most_reserve}
unfoldable pub use Rattle.gap_proof.specs.MixtureBound.{mixture_bound}
pub use Rattle.gap_proof.specs.Mixtures.{WeighedSchedule, MixtureLists, AreMixed, IsMixture}
pub use Rattle.law_parts.specs.BoundLaws.{IsAnswered, ArePriced, IsInBox, RunBoundsHold, RunPricesAreWithin}
pub use Rattle.law_parts.specs.BoundLaws.{AnsweredRowsAreWithin}
pub use Rattle.plain_lists.specs.declared.limits.TheConstants.{MOST_UNITS, MOST_PROPOSALS, MOST_AHEAD}
pub use Rattle.uc_model.specs.BoundLaws.{GivesWithin, OutputsAreWithin, EarningsAreWithin, UnitsAreWithin}
pub use Rattle.uc_model.specs.BoundLaws.{PowerAndReserveTotalsAreWithin, PlanCostsAreWithin, DualValuesAreWithin}
pub use Rattle.uc_model.specs.Laws.{ReserveFrom0, PaymentsAreAtLeastZero}
pub use Rattle.report_form.specs.Laws.{IsFlatLine}
pub use Rattle.report_form.specs.ReportText.{UnitLine, Report}
pub use Rattle.right_report.specs.Laws.{RightReportHasForm, ReportPaymentsMakeUpTheGap, OneIsChosen, OneRun}
pub use Rattle.right_report.specs.RightReport.{unit_lines, IsRightReport}
pub use Rattle.report_read.specs.Bounds.{IsCount, IsNumber, IsAmount, IsEnergyPrice, IsReservePrice, IsList, IsProposal}
pub use Rattle.report_read.specs.Bounds.{IsTold, IsThermalLine, IsOtherLine, IsReport}
pub use Rattle.law_parts.specs.AuditLaws.{IsPlannedCase, AreAsked}
pub use Rattle.std.proofs.lemmas.List.Quantifiers.{position-Some}
pub use Rattle.law_parts.specs.BudgetLaws.{LongerRunsBeginSo, LargerBudgetsAreNoWorse}
