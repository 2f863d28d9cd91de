-- The names that the proofs of this crate take from its specs and from other crates, passed on from one place.
pub use Rattle.std.proofs.Common.{◌≡◌, ℕ, zero, suc, ◌+◌, ◌-◌, ◌*◌, ◌<◌, ◌≤◌, ℤ, pos, neg_ℤ, ◌+ℤ◌, ◌-ℤ◌, ◌*ℤ◌, ◌≤ℤ◌}
pub use Rattle.std.proofs.Common.{List, [], ◌∷◌, ◌++◌, length, map, take, replicate, refl, sym, ap, ◌∙◌, subst, arith}
pub use Rattle.std.proofs.Common.{rules, Some, w64, FitsSigned, get_or, inl, inr}
pub use Rattle.std.proofs.lemmas.Int.{ints, to_z-of_z}
pub use Rattle.std.proofs.lemmas.List.{take_all, length-map, map_push, length-replicate}
pub use Rattle.std.proofs.lemmas.List.FromFn.{length-map-range_with_len}
pub use Rattle.std.proofs.lemmas.Slice.Zip.{all_zipped_more}
pub use Rattle.std.specs.List.{All, AllZip}
pub use Rattle.std.specs.Prelude.{slice_get, slice_index_or}
pub use Rattle.plain_lists.proofs.ListLaws.{head_of, tail_of, all_nil, all_cons, none_some, same_item, total-push}
pub use Rattle.plain_lists.proofs.ListLaws.{map_item, zip_item}
pub use Rattle.plain_lists.specs.Ranges.{IsFrom}
pub use Rattle.plain_lists.specs.Sums.{int_at, total}
pub use Rattle.uc_model.specs.Data.{AnyUnit, Thermal, ThermalUnit, NamedThermalUnit, Schedule}
pub use Rattle.uc_model.specs.Data.{Market, PriceLists, units}
pub use Rattle.uc_model.specs.PlainCases.{market_of, schedules_of}
pub use Rattle.uc_model.specs.PlainUnits.{prices_of, schedule_of, named_thermal_of, thermal_of}
pub use Rattle.uc_model.specs.PriceRule.{start_price}
pub use Rattle.uc_model.specs.Schedules.{IsFeasible, IsThermalFeasible}
pub use Rattle.uc_model.specs.Systems.{IsFeasiblePlan}
pub use Rattle.gap_proof.specs.Mixtures.{WeighedSchedule, MixtureLists, entry_of, entries_of, mixture_of, AreShares}
pub use Rattle.gap_proof.specs.Mixtures.{AreMixed, IsMixture, AreEntries, HasMixtureShape, most_whole}
pub use Rattle.convex_search.specs.FoundPrices.{ArePricesOver, IsNear, everywhere}
pub use Rattle.bundle_columns.specs.Mixing.{AreOfOne, AreKept, IsKept}
pub use Rattle.gap_proof.specs.declared.mixtures.Entry.{Entry}
pub use Rattle.bundle_columns.specs.Weights.{weight_at, reweighed, rescheduled, StaysKept}
pub use Rattle.std.specs.Prelude.{slice_set}
pub use Rattle.plain_lists.proofs.ListLaws.{item_of}
pub use Rattle.uc_model.specs.Limits.{IsEarned, IsSum, IsUnit, IsMarket, ArePrices}
pub use Rattle.uc_model.specs.Earnings.{IsTop, earnings}
pub use Rattle.bundle_columns.specs.Weights.{IsFitAt}
pub use Rattle.bundle_columns.specs.Pools.{IsPool, places_in}
pub use Rattle.convex_search.specs.Searching.{IsOracle, IsBestOf, IsSearch}
