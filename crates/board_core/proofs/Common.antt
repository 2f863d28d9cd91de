-- The names that the proofs of this crate take from its specs and from other crates, passed on from one place.
pub use Rattle.std.proofs.Common.{eq-eqb, ne_eqb, ◌≡◌, ℕ, suc, ◌+◌, ◌-◌, ◌<◌, ◌≤◌, ℤ, Bool, true, false, cond, ◌&&◌}
pub use Rattle.std.proofs.Common.{◌==◌, Option, Some, inl, inr, List, [], ◌∷◌, ◌++◌, length, map, get_or, refl, sym, ap}
pub use Rattle.std.proofs.Common.{◌∙◌, subst, arith, length-append, ◌≢◌, zero, pos, take, ◌*◌, ◌/◌, ◌%◌, ◌⊎◌, None}
pub use Rattle.std.proofs.Common.{◌||◌, ◌-ℤ◌, ◌+ℤ◌, min, rules, FitsSigned, w64, vec_capacity}
pub use Rattle.std.proofs.Math.ListN.{set, length-set}
pub use Rattle.std.proofs.Math.Nat.{le-mul_of_pos_right, le_trans}
pub use Rattle.std.proofs.lemmas.Bool.{false≢true, cases_lt, le-leb, lt-leb}
pub use Rattle.std.proofs.lemmas.Bool.Decides.{nat_tests}
pub use Rattle.std.proofs.lemmas.Int.{ints, to_z-of_z}
pub use Rattle.std.proofs.lemmas.List.{map-set, get_or-set_other, get_or-map, get_or-take, map-append, length-map}
pub use Rattle.std.proofs.lemmas.List.{length-take-le, get_or-set_same, set-get_or, take-set-le, take_more_set}
pub use Rattle.std.proofs.lemmas.List.{get_or-replicate, length-replicate, ext_get_or, get_or_default, take-map}
pub use Rattle.std.proofs.lemmas.List.{length-take, replicate-append-replicate}
pub use Rattle.std.proofs.lemmas.List.Folds.{list_any-append, sum_by-replicate}
pub use Rattle.std.proofs.lemmas.List.FromFn.{length-map-range_with_len, get_or-map-range_with_len}
pub use Rattle.std.proofs.lemmas.List.FromFn.{map-range_with_len_more, fill_by_all}
pub use Rattle.std.proofs.lemmas.Option.{slice_get-get_or, slice_get_past, get_or_from_slice_get, slice_get_within}
pub use Rattle.std.specs.Int.{w128, cast_signed, cast_unsigned}
pub use Rattle.std.specs.List.{range_with_len, list_any, flat_map, All, AllZip, list_all}
pub use Rattle.std.specs.Option.{option_map_or}
pub use Rattle.std.specs.Prelude.{not, nat_lt, nat_le, slice_get, slice_index, slice_index_or, is_some, replicate}
pub use Rattle.std.specs.Prelude.{slice_set}
pub use Rattle.board_store.specs.Answers.{answer_of}
pub use Rattle.board_core.specs.Boards.{kept_answer}
pub use Rattle.board_core.specs.Events.{task_number, event_of, events_of, event_by}
pub use Rattle.board_core.specs.Ledgers.{LedgerValue, with_prices, with_value, blank, raised_by, with_schedule}
pub use Rattle.board_core.specs.Openings.{blank_ledger, with_openings, with_opening}
pub use Rattle.board_core.specs.Parts.{Lists, task_count, sums_of, fronts_of, AreTakers, mark, AreMarks, AreTallies}
pub use Rattle.board_core.specs.Parts.{AreRounds, IsBoard, IsLedger, bit, unset, AreHalts, sum_up, answered, supply_to}
pub use Rattle.board_core.specs.Parts.{reserve_to}
pub use Rattle.board_core.specs.Refusals.{differs_of, reply_of, own_prices_in, held_refusal, refusal_of}
pub use Rattle.board_core.specs.Replies.{posted_of, closed_of as closed_if, claim_of}
pub use Rattle.board_core.specs.Rounds.{Sums, Fronts, is_full, row_in, with_row, opens, with_round, IsRound, is_due}
pub use Rattle.board_core.specs.Rounds.{with_opened}
pub use Rattle.board_core.specs.Setups.{IsSetup, setup_of}
pub use Rattle.board_store.specs.Board.{Setup, Answer, rules_of, no_answer, Content, IsRight, IsLegalHistory}
pub use Rattle.board_store.specs.Board.{earned_in, schedules_in}
pub use Rattle.board_store.specs.BoardLaws.{RoundLaws, BoardLaws, ListsDifferAtFirstUnequalNumber, Extends, TakenTells}
pub use Rattle.board_store.specs.Bounds.{IsSum, IsTotal, TotalsAreWithin, IsWorth}
pub use Rattle.board_store.specs.Calls.{differs_from, post_answer, after_post, after_halt, own_rows, claim_answer}
pub use Rattle.board_store.specs.Calls.{after_claim, has_finished}
pub use Rattle.board_store.specs.Entries.{entry_of, entries_of}
pub use Rattle.board_store.specs.Rounds.{Rules, rows_by, prices_by, opened_in, Event, Given, sooner, only_at, posts}
pub use Rattle.board_store.specs.Rounds.{holders, closed_front, opened, is_finished, prices_at, is_halt, is_halt_of}
pub use Rattle.board_store.specs.Rounds.{Holders, Finished, Halted, GivenTask, NotYet, claim_reply, Posts, is_closed}
pub use Rattle.board_store.specs.Rounds.{answer_at, row_by, rows_of, Stopped, Taken, Closing, post_event, with_post}
pub use Rattle.board_store.specs.Rounds.{answers, rows_to, IsPost, IsNext, PostReply, OtherProposal, OtherUnit}
pub use Rattle.board_store.specs.Rounds.{OtherContent, Doubled, OtherHolder, TakenPost, is_holder, with_answer}
pub use Rattle.board_store.specs.Rounds.{opened as opened_of, ClaimReply, with_claim}
pub use Rattle.board_store.specs.TaskDifference.{difference, IsOver, IsTask, Difference}
pub use Rattle.board_store.specs.declared.entries.Entry.{Entry}
pub use Rattle.board_store.specs.Same.{AreSame}
pub use Rattle.price_space.specs.Totals.{IsRaised}
pub use Rattle.price_space.specs.Firsts.{IsFirstUpTo}
pub use Rattle.price_space.specs.Moves.{is_last_settled, values_of}
pub use Rattle.price_space.specs.Sizes.{IsRowBelow}
pub use Rattle.plain_lists.specs.declared.limits.TheConstants.{MOST_TASKS, MOST_UNITS, MOST_WORK}
pub use Rattle.uc_model.specs.Data.{Market, PriceLists, unit_count, AnyUnit, Thermal, Flat, Bid, units, Schedule}
pub use Rattle.uc_model.specs.Data.{units as units_of}
pub use Rattle.uc_model.specs.Earnings.{supply_in, earnings}
pub use Rattle.uc_model.specs.PlainCases.{chosen_unit, task_unit, proposal_of, market_of}
pub use Rattle.uc_model.specs.PlainUnits.{prices_of, schedule_of, thermal_of, renewable_of, bid_of}
pub use Rattle.uc_model.specs.PriceRule.{Proposal, age, stepped_prices, price_rule, next_prices, no_prices}
pub use Rattle.uc_model.specs.PriceRule.{opening_prices_of, start_prices, is_settled}
pub use Rattle.plain_lists.specs.Reserved.{items_in}
pub use Rattle.uc_model.specs.Runs.{Fits}
pub use Rattle.uc_model.specs.Schedules.{reserve_in, IsFeasible}
pub use Rattle.plain_lists.specs.Sums.{int_at, total, zip_with}
pub use Rattle.uc_model.specs.Systems.{worth_of_demand, total_power, total_reserve}
pub use Rattle.uc_model.specs.TaskLists.{lag_numbers, point_numbers, mark_number}
pub use Rattle.uc_model.specs.TaskLists.{fixed_numbers, list_numbers, unit_numbers, task_numbers}
pub use Rattle.uc_model.specs.declared.cases.Row.{Row}
pub use Rattle.uc_model.specs.declared.cases.Task.{Task}
pub use Rattle.uc_model.specs.declared.units.UnitKind.{UnitKind}
