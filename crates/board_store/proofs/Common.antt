-- The names that the proofs of this crate take from its specs and from other crates, passed on from one place.
pub use Rattle.std.proofs.Common.{◌≡◌, ℕ, zero, suc, ◌+◌, ◌-◌, ◌*◌, ◌<◌, ◌≤◌, ◌⊎◌, inl, inr, ℤ, pos, Bool, List, []}
pub use Rattle.std.proofs.Common.{◌∷◌, ◌++◌, length, take, drop, map, get_or, refl, sym, ap, ◌∙◌, subst, arith, rules}
pub use Rattle.std.proofs.Common.{length-append, ◌↔◌, append_assoc, IsTrue, mul-le-mul_right, w64, FitsSigned}
pub use Rattle.std.proofs.Common.{vec_capacity, true, false, cond, ◌==◌, Option, Some, None, ◌||◌, neg_ℤ, ◌+ℤ◌, ◌-ℤ◌}
pub use Rattle.std.proofs.Common.{◌*ℤ◌, ◌≤ℤ◌, below_more}
pub use Rattle.std.proofs.Math.ListN.{set, length-set}
pub use Rattle.std.proofs.lemmas.Bool.{false≢true, and_parts, and_from, eqb-true, cases_lt, leb-true}
pub use Rattle.std.specs.Prelude.{◌&&◌, eqb, replicate, min, is_none, is_some, not, nat_le, nat_lt, slice_get}
pub use Rattle.std.specs.Prelude.{IsFalse, slice_index}
pub use Rattle.std.proofs.lemmas.Int.{to_z-of_z, ints}
pub use Rattle.std.proofs.lemmas.List.{get_or-set_same, get_or-set_other, length-replicate, length-map, map-set}
pub use Rattle.std.proofs.lemmas.List.{get_or_read, get_or-map, length-drop, length-take-le, append-nil}
pub use Rattle.std.proofs.lemmas.List.{take-append-le, drop-append-le, take-append-drop, drop_more}
pub use Rattle.std.proofs.lemmas.List.{replicate-append-replicate, take_all, drop_all, take_at, drop_at, take_more}
pub use Rattle.std.proofs.lemmas.List.{take_more_same, replicate_more, get_or-drop, drop-drop, same_from_push}
pub use Rattle.std.specs.Int.{cast_signed, cast_unsigned}
pub use Rattle.board_store.specs.Answers.{Answers, answer_in, answers_in, answer_of, least_left}
pub use Rattle.board_store.specs.RowRuns.{laid_out, from_run, row_at, IsAdded, IsAt}
pub use Rattle.board_store.specs.Tables.{Rows, rows_in, IsTable}
pub use Rattle.plain_lists.specs.Sums.{int_at, total, floor_div, clamped, zip_with}
pub use Rattle.plain_lists.specs.declared.limits.TheConstants.{MOST_TASKS, MOST_WORK}
pub use Rattle.std.proofs.Math.Path.{fun_ext}
pub use Rattle.std.proofs.lemmas.Bool.Decides.{nat_tests, Decides-int_eq}
pub use Rattle.std.proofs.lemmas.List.Elements.{All-append, All-map, All-replicate}
pub use Rattle.std.proofs.lemmas.List.Folds.{find-append}
pub use Rattle.std.proofs.lemmas.List.FromFn.{length-range_with_len, get_or-range_with_len, length-map-range_with_len}
pub use Rattle.std.proofs.lemmas.List.Sums.{prefix_len-le-length, prefix_len_passes, prefix_len_stops}
pub use Rattle.std.proofs.lemmas.Option.{slice_get_within, slice_get-get_or, get_or_from_slice_get}
pub use Rattle.std.specs.List.{list_any, list_all, prefix_len, range_with_len, find, flat_map, All, AllZip}
pub use Rattle.std.specs.Option.{option_map_or, option_or, option_map}
pub use Rattle.board_store.specs.Board.{Setup, Answer, rules_of, IsRight, row_of, no_answer, schedules_in, earned_in}
pub use Rattle.board_store.specs.Board.{IsLegalHistory, IsLegalFor}
pub use Rattle.board_store.specs.BoardLaws.{Extends, FrontIsClosed, IsOneEventMore, TakenTells, RoundLaws, BoardLaws}
pub use Rattle.board_store.specs.Calls.{differs_from, own_numbers}
pub use Rattle.board_store.specs.Laws.{EachRowHasAnswerOfEachUnit, FinishedHistoryIsWholeRun, FinishedHasRow}
pub use Rattle.board_store.specs.Laws.{FinishedStays, AnswersOfHistoryFitTheirTasks}
pub use Rattle.board_store.specs.Rounds.{Rules, Event, Given, Taken, Closing, Stopped, sooner, first_some, only_at}
pub use Rattle.board_store.specs.Rounds.{given_by, posted_by, Holders, holders, Posts, posts, with_post, prices_at}
pub use Rattle.board_store.specs.Rounds.{opened, IsPost, IsNext, GoesOn, IsLegal, is_closed, is_halt, is_finished}
pub use Rattle.board_store.specs.Rounds.{ClaimReply, Finished, Halted, GivenTask, NotYet, next_task, claim_reply}
pub use Rattle.board_store.specs.Rounds.{claim_from, answer_at, answers, with_row, rows_by, prices_by, row_by}
pub use Rattle.board_store.specs.Rounds.{rows_to, closed_front, rows_of, free_front, PostReply, OtherProposal}
pub use Rattle.board_store.specs.Rounds.{OtherUnit, OtherContent, Doubled, OtherHolder, TakenPost, is_holder}
pub use Rattle.board_store.specs.Rounds.{post_from, post_reply, free_in, opened_in}
pub use Rattle.board_store.specs.TaskDifference.{Difference, difference, IsOver, IsTask, first_difference, SameTask}
pub use Rattle.board_store.specs.Words.{IsOpenTask, IsHeld, IsFirstFree, ClaimSays}
pub use Rattle.plain_lists.proofs.SignedLaws.{IsWithin, clamped_from, wider}
pub use Rattle.uc_model.specs.BoundLaws.{GivesWithin, OutputsAreWithin, EarningsAreWithin, UnitsAreWithin}
pub use Rattle.uc_model.specs.BoundLaws.{PowerAndReserveTotalsAreWithin, DemandWorthIsWithin}
pub use Rattle.uc_model.specs.Data.{PriceLists, units, unit_count, AnyUnit, Thermal, Flat, Bid, Schedule, Market}
pub use Rattle.uc_model.specs.Data.{NamedThermalUnit, NamedRenewableUnit, NamedBidUnit, ThermalUnit}
pub use Rattle.uc_model.specs.Earnings.{earnings, IsBest, IsTop, supply_in}
pub use Rattle.uc_model.specs.Laws.{DualIsAtMostCost}
pub use Rattle.plain_lists.specs.Ranges.{IsFrom}
pub use Rattle.uc_model.specs.Limits.{IsMarket, IsUnit, IsTotal, IsHorizon, ArePrices, price_limit}
pub use Rattle.uc_model.specs.PriceRule.{Proposal, start_prices, opening_prices_of, stepped_prices, age, no_prices}
pub use Rattle.uc_model.specs.PriceRule.{next_prices, move_of, squared_length, energy_direction, reserve_direction}
pub use Rattle.uc_model.specs.PriceRule.{price_rule, is_settled}
pub use Rattle.uc_model.specs.Runs.{Fits, IsNextRow, AreRightRows, IsRun}
pub use Rattle.uc_model.specs.Schedules.{IsFeasible, reserve_in}
pub use Rattle.uc_model.specs.Systems.{IsFeasiblePlan, total_power, total_reserve}
pub use Rattle.uc_model.specs.TaskLists.{task_numbers, flag_number, lag_numbers, point_numbers, mark_number}
pub use Rattle.uc_model.specs.TaskLists.{block_numbers, period_numbers, fixed_numbers, list_numbers, unit_numbers}
pub use Rattle.board_store.specs.Same.{AreSame, HaveSamePowers, HaveSameTimes}
pub use Rattle.uc_model.specs.PlainCases.{chosen_unit, task_unit}
pub use Rattle.uc_model.specs.PlainUnits.{bid_of, prices_of}
pub use Rattle.plain_lists.specs.Reserved.{Reserved, items_in}
pub use Rattle.uc_model.specs.declared.units.Block.{Block}
pub use Rattle.uc_model.specs.declared.units.UnitKind.{UnitKind}
