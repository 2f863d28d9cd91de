-- The names that the proofs of this crate take from its specs and from other crates, passed on from one place.
pub use Rattle.std.proofs.Common.{◌≡◌, ℕ, ◌+◌, List, [], ◌∷◌, ◌++◌, length, sym, ap, ◌∙◌, arith, length-append, subst}
pub use Rattle.std.proofs.Common.{Some, vec_len, zero, suc, ◌<◌, ℤ, pos, ◌+ℤ◌, Option, None, map, refl, ⊎_elim, ◌-◌}
pub use Rattle.std.proofs.Common.{◌≤◌, Bool, true, false, if◌then◌else◌, take, rules, get_or, subst₂, neg_ℤ, ◌≤ℤ◌}
pub use Rattle.std.proofs.Common.{replicate, inl, inr, FitsSigned, ◌-ℤ◌, ◌*◌}
pub use Rattle.std.proofs.lemmas.Int.{to_z-of_z, ints}
pub use Rattle.std.proofs.lemmas.List.{length-map, get_or-take, length-take-le, length-replicate, with_items_is}
pub use Rattle.std.proofs.lemmas.List.{take-map}
pub use Rattle.std.proofs.lemmas.List.Elements.{All-pop, All-push, Contains-append_cases, All-replicate, All-map}
pub use Rattle.std.proofs.lemmas.List.Elements.{All-nil, All-from_get_or, All-take}
pub use Rattle.std.specs.Int.{w128}
pub use Rattle.std.specs.List.{All, AllZip, concat, range_with_len}
pub use Rattle.std.specs.Prelude.{min, Contains, IsPermutation, slice_get, slice_index_or, not, nat_le, IsTrue}
pub use Rattle.std.specs.Prelude.{IsFalse, slice_index}
pub use Rattle.unit_program.specs.Tops.{IsBenchOver}
pub use Rattle.audit_check.specs.Jobs.{AreFor, HasBegun, HaveBegun}
pub use Rattle.audit_check.specs.declared.answerer.Answerer.{Answerer}
unfoldable pub use Rattle.report_read.specs.Plain.{report_of}
pub use Rattle.uc_model.specs.PlainCases.{market_of, schedules_of, proposal_of}
pub use Rattle.std.proofs.Math.Logic.{∥∥₁_elim, ∥∥₁_map, ∥∥₁_prop}
pub use Rattle.std.proofs.Props.{props}
pub use Rattle.std.proofs.lemmas.Bool.{false≢true, cases_lt}
pub use Rattle.std.proofs.lemmas.List.FromFn.{length-range_with_len}
pub use Rattle.std.proofs.lemmas.Option.{slice_get_within, slice_get-get_or}
pub use Rattle.std.specs.Option.{option_map_or}
pub use Rattle.unit_program.specs.Answers.{IsAnswerAt}
pub use Rattle.audit_check.specs.Rows.{IsNextProposal, IsLast, IsCostOfPlan, IsRowAt, IsRunSoFar}
pub use Rattle.audit_check.specs.Sums.{part_of, sum_of, FitsAt, AreSumsOf, AreAdded, AreSumsOfAll, AreWithin, IsMore}
pub use Rattle.audit_check.specs.Sums.{IsSmall}
pub use Rattle.audit_check.specs.declared.sums.Sums.{Sums}
pub use Rattle.price_space.specs.Totals.{IsRaised, TakesPower}
pub use Rattle.price_space.specs.Sizes.{IsRowBelow}
pub use Rattle.task_deal.specs.Jobs.{below, added, all_added, HasRun}
pub use Rattle.plain_lists.proofs.ListLaws.{head_of, tail_of, zip_item, length_same, all_nil, all_cons}
pub use Rattle.plain_lists.proofs.ListLaws.{length-zip_with, none_some, same_item, item_of, at_place, map-append}
pub use Rattle.plain_lists.proofs.ListLaws.{total-push}
pub use Rattle.uc_model.specs.BoundLaws.{EarningsAreWithin, EarnedSumsAreWithin, UnitsAreWithin, GivesWithin}
pub use Rattle.uc_model.specs.BoundLaws.{most_given, least_given, OutputsAreWithin, PowerAndReserveTotalsAreWithin}
pub use Rattle.uc_model.specs.BoundLaws.{DualValuesAreWithin, PlanCostsAreWithin}
pub use Rattle.uc_model.specs.Data.{AnyUnit, PriceLists, Schedule, Market, units, Thermal, Flat, Bid, unit_count}
pub use Rattle.uc_model.specs.Earnings.{amount_of, earnings, supply_in, IsTop}
pub use Rattle.uc_model.specs.Laws.{OneLeast, DualIsAtMostCost}
pub use Rattle.uc_model.specs.Limits.{IsUnit, IsEarned, IsSum, IsMarket, ArePrices, IsTotal, IsWorth}
pub use Rattle.uc_model.specs.PlainUnits.{prices_of, schedule_of}
pub use Rattle.uc_model.specs.PriceRule.{Proposal, no_prices, age, stepped_prices, next_prices, is_settled}
pub use Rattle.uc_model.specs.PriceRule.{opening_prices_of, start_prices, start_price}
pub use Rattle.uc_model.specs.Runs.{Fits, IsNextRow, IsRun}
pub use Rattle.uc_model.specs.Schedules.{reserve_in, IsFeasible}
pub use Rattle.plain_lists.specs.Sums.{int_at, total, sum_below, zip_with}
pub use Rattle.uc_model.specs.Systems.{total_power, total_reserve, IsDualValue, worth_of_demand}
