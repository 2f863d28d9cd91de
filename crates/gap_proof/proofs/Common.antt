-- The names that the proofs of this crate take from its specs and from other crates, passed on from one place.
pub use Rattle.std.proofs.Common.{◌≡◌, ℕ, zero, suc, ◌+◌, ◌-◌, ◌*◌, ◌<◌, ◌≤◌, Some, ℤ, pos, ◌+ℤ◌, ◌*ℤ◌, List, [], ◌∷◌}
pub use Rattle.std.proofs.Common.{drop, replicate, length, unsigned_abs, refl, sym, ap, subst, ◌∙◌, arith}
pub use Rattle.std.proofs.Common.{length-drop, Bool, true, false, ◌&&◌, nat_le, if◌then◌else◌, ◌≤ℤ◌, ◌<ℤ◌, inl, inr}
pub use Rattle.std.proofs.Common.{◌^◌, FitsSigned, ◌-ℤ◌, int_lt, map, ◌≢◌, set, below_more, get_or-set_other}
pub use Rattle.std.proofs.Common.{get_or-set_same, nat_lt, rules, add-one, neg_ℤ, ◌++◌, take, get_or}
pub use Rattle.std.proofs.Math.IntN.{*ℤ_comm, zero-*ℤ, suc_ℤ-*ℤ, *ℤ-zero}
pub use Rattle.std.proofs.Math.Nat.{mul-le-mul_right}
pub use Rattle.std.proofs.lemmas.Bool.{cases_lt}
pub use Rattle.std.proofs.lemmas.Bool.Decides.{nat_tests}
pub use Rattle.std.proofs.lemmas.Int.{ints, clamps, by_lt_z, to_z-of_z}
pub use Rattle.std.proofs.lemmas.List.{drop_all, length-replicate, drop_more, length-map, length-set, get_or_default}
pub use Rattle.std.proofs.lemmas.List.Elements.{All-head, All-tail}
pub use Rattle.std.proofs.lemmas.List.FromFn.{length-map-range_with_len, get_or-map-range_with_len}
pub use Rattle.std.proofs.lemmas.Option.{slice_get_within, get_or_from_slice_get, slice_get-get_or, none-some}
pub use Rattle.std.specs.Int.{w128, int_max, w64, int_min, cast_signed}
pub use Rattle.std.specs.List.{All, range_with_len, AllZip}
pub use Rattle.std.specs.Option.{option_map_or}
pub use Rattle.std.specs.Prelude.{slice_get}
pub use Rattle.gap_proof.specs.Candidates.{RowRange, candidates, prices_of_row, IsFirstLeast, range_bound}
pub use Rattle.gap_proof.specs.CertifiedBound.{slope_at, height_of, most_over, price_at, lowest_price, weighted}
pub use Rattle.gap_proof.specs.CertifiedBound.{low_end, high_end}
unfoldable pub use Rattle.gap_proof.specs.CertifiedBound.{certified_bound}
pub use Rattle.gap_proof.specs.PlaneSums.{IsSlopeSum, IsHeightSum, AreSums, IsWeight, IsRowWithin, least_bound}
pub use Rattle.price_space.specs.Sizes.{IsRowOver}
pub use Rattle.plain_lists.proofs.IntLaws.{mul-add, sum_below-same, mul-sub, mul-mono_of}
pub use Rattle.plain_lists.proofs.SignedLaws.{IsWithin, fits_within, sum_within, product_within}
pub use Rattle.plain_lists.proofs.SignedLaws.{signed_product_within}
pub use Rattle.uc_model.specs.Data.{PriceLists, Market, Thermal, ThermalUnit, NamedThermalUnit, NamedRenewableUnit}
pub use Rattle.uc_model.specs.Data.{NamedBidUnit}
pub use Rattle.plain_lists.specs.Ranges.{IsFrom}
pub use Rattle.uc_model.specs.Limits.{IsMarket, price_limit, IsTotal, IsPower, IsBlock, IsBlockList, IsRenewableUnit}
pub use Rattle.uc_model.specs.Limits.{IsBidUnit}
pub use Rattle.uc_model.specs.PlainCases.{market_of, proposal_of}
pub use Rattle.uc_model.specs.PlainUnits.{prices_of, renewable_of, thermal_of, schedule_of}
pub use Rattle.uc_model.specs.PriceRule.{Proposal, no_prices}
pub use Rattle.plain_lists.specs.Sums.{int_at, total, floor_div, sum_below, zip_with}
pub use Rattle.plain_lists.proofs.ListLaws.{head_of, tail_of}
pub use Rattle.uc_model.specs.declared.units.Block.{Block}
pub use Rattle.uc_model.specs.Earnings.{cost_of, supply_in}
pub use Rattle.uc_model.specs.Schedules.{reserve_in, power_in, IsThermalFeasible, blocks_at}
pub use Rattle.gap_proof.specs.Mixtures.{WeighedSchedule, MixtureLists, AreMixed, IsMixture}
pub use Rattle.gap_proof.specs.MixtureBound.{weighed, mixture_cost, lack, short, best_sold, best_bought, flat}
pub use Rattle.gap_proof.specs.MixtureBound.{greatest, added, most_energy, most_reserve}
unfoldable pub use Rattle.gap_proof.specs.MixtureBound.{mixture_bound}
