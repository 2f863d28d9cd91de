-- The names that the proofs of this crate take from its specs and from other crates, passed on from one place.
pub use Rattle.std.proofs.Common.{◌≡◌, ℕ, zero, suc, ◌+◌, ◌<◌, ◌≤◌, ℤ, ◌+ℤ◌, List, [], ◌∷◌, map, drop, length, get_or}
pub use Rattle.std.proofs.Common.{refl, ap, sym, subst, ◌∙◌, arith, pos, negsuc, neg_ℤ, ◌*ℤ◌, unsigned_abs, FitsSigned}
pub use Rattle.std.proofs.Common.{replicate, ◌⊎◌, inl, inr, ⊎_elim, Bool, true, false, cond, ◌-ℤ◌, ◌≤ℤ◌, int_le, Option}
pub use Rattle.std.proofs.Common.{Some, unwrap_or, filter, ◌-◌, if◌then◌else◌, ◌<ℤ◌, slice_get, int_lt, take, add-zero}
pub use Rattle.std.proofs.Common.{rules, ◌++◌, ◌^◌, ◌*◌, ◌&&◌, nat_lt, None, below_more, int_div, ◌/◌, min, to_z, of_z}
pub use Rattle.std.proofs.Common.{lit<, add-one}
pub use Rattle.std.proofs.lemmas.Int.{ints, fold-int_min_bounds, fold-int_min_reached, fold-int_max_bounds}
pub use Rattle.std.proofs.lemmas.Int.{fold-int_max_reached, by_lt_z, to_z-of_z, to_z_pos, fits_signed_mul, quot_fits}
pub use Rattle.std.proofs.lemmas.List.{length-map, at_drop_more, ext_get_or, length-replicate, get_or-replicate}
pub use Rattle.std.proofs.lemmas.List.{get_or_default, nil_from_length, get_or-drop, length-drop, take_all}
pub use Rattle.std.proofs.lemmas.List.Sorted.{All-permutation, length_permutation, IsPermutation-sym, IsPermutation-map}
pub use Rattle.std.proofs.lemmas.List.Sorted.{Contains-permutation, sum_by-IsPermutation}
pub use Rattle.std.proofs.lemmas.List.Sums.{sum_by-cons, sum_by-take-drop, sum_by-take-le, sum_by-le-sum_by}
pub use Rattle.std.proofs.lemmas.List.Sums.{sum_by_more}
pub use Rattle.std.specs.Int.{w64, int_min, int_max, w128, int_div_euclid, cast_signed}
pub use Rattle.std.specs.List.{All, Contains, fold, reduce, sum_by, range_with_len, list_all, position_or_len}
pub use Rattle.std.specs.List.Sorted.{IsPermutation}
unfoldable pub use Rattle.price_space.specs.Opening.{opened}
pub use Rattle.price_space.specs.Starts.{priced_of, priced_units_of, AreRisingUnits, renewable_power_of, power_at}
pub use Rattle.price_space.specs.Starts.{IsStartPrice, IsLeastReaching, IsGreatestShort, IsWithoutUnits, IsRising}
pub use Rattle.price_space.specs.declared.start.Priced.{Priced}
pub use Rattle.plain_lists.proofs.SignedLaws.{clamped_from, fits_within, IsWithin, product_within}
pub use Rattle.uc_model.specs.Data.{NamedThermalUnit, NamedRenewableUnit, Market, PriceLists}
pub use Rattle.plain_lists.specs.Ranges.{IsFrom}
pub use Rattle.uc_model.specs.Limits.{IsOutput, IsThermalUnit, IsRenewableUnit, IsMarket, price_limit}
pub use Rattle.uc_model.specs.PlainCases.{market_of, proposal_of}
pub use Rattle.uc_model.specs.PlainUnits.{thermal_of, named_thermal_of, named_renewable_of}
pub use Rattle.uc_model.specs.PriceRule.{opening_prices_of, full_load_price, power_up_to, start_price, Proposal}
pub use Rattle.uc_model.specs.PriceRule.{first_greatest, chosen_number, squared_length, age, stepped_prices}
pub use Rattle.uc_model.specs.PriceRule.{next_prices, no_prices, is_settled, direction_at}
pub use Rattle.plain_lists.specs.Sums.{int_at, total, floor_div, clamped, sum_below}
pub use Rattle.uc_model.specs.declared.units.NamedFlat.{NamedFlat}
pub use Rattle.std.proofs.Math.IntN.{*ℤ_comm, *ℤ-zero, pos-*ℤ-pos}
pub use Rattle.std.proofs.Math.Nat.{div-le_self, pow-le-pow_right}
pub use Rattle.std.specs.Option.{option_map, option_map_or}
pub use Rattle.price_space.specs.Firsts.{IsFirstUpTo}
pub use Rattle.price_space.specs.Moves.{values_of, low_of, prices_on, direction_on, is_last_settled}
unfoldable pub use Rattle.price_space.specs.Moves.{price_after}
pub use Rattle.plain_lists.proofs.IntLaws.{mul-sub, mul-mono_of}
pub use Rattle.uc_model.specs.declared.cases.Row.{Row}
