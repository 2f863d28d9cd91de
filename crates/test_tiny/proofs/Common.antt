-- The names that the proofs of this crate take from its specs and from other crates, passed on from one place.
pub use Rattle.std.proofs.Common.{ℕ, ◌*◌, ◌^◌, ◌<◌, ◌≤◌, ℤ, pos, negsuc, neg_ℤ, ◌*ℤ◌, arith, ◌≡◌, zero, suc, ◌+◌, ◌-◌}
pub use Rattle.std.proofs.Common.{◌⊎◌, inl, inr, Bool, true, false, List, [], ◌∷◌, ◌++◌, map, reverse, length, refl}
pub use Rattle.std.proofs.Common.{sym, ap, ◌∙◌, subst, append_assoc, cond, ◌+ℤ◌, ◌-ℤ◌, ◌≤ℤ◌, drop, set, replicate}
pub use Rattle.std.proofs.Common.{add-one, rules, take, get_or, below_more}
pub use Rattle.std.proofs.Math.Nat.{mul-le-mul, mul-le-mul_left, two-pow-succ}
pub use Rattle.std.proofs.lemmas.Int.{ints, fits_signed_mul, unsigned_abs-mul, clamps, to_z-of_z}
pub use Rattle.std.proofs.lemmas.List.{map-append, reverse-append, reverse-reverse, length-reverse, length-map}
pub use Rattle.std.proofs.lemmas.List.{drop_all, length-replicate, get_or-replicate, append-nil, length-set}
pub use Rattle.std.specs.Int.{Width, int_min, w64, cast_signed, cast_unsigned, w128}
pub use Rattle.std.specs.List.{All, fold}
pub use Rattle.std.specs.Prelude.{FitsSigned, unsigned_abs, slice_index, slice_index_or, if◌then◌else◌, IsTrue, IsFalse}
pub use Rattle.std.specs.Prelude.{◌<ℤ◌}
pub use Rattle.test_tiny.specs.Counts.{after_of, list_count, flag, flags_of, schedules_after, IsWithin}
pub use Rattle.test_tiny.specs.Money.{revenue_in, production_in, start_in, net_in}
pub use Rattle.test_tiny.specs.Rules.{KeepsRules, MayStopAtOnce, KeepsRulesAt}
pub use Rattle.test_tiny.specs.Tries.{IsKept}
pub use Rattle.plain_lists.proofs.SignedLaws.{fits_within}
pub use Rattle.uc_model.specs.Data.{Schedule, ThermalUnit, Thermal, PriceLists}
pub use Rattle.uc_model.specs.Earnings.{earnings}
pub use Rattle.uc_model.specs.Envelope.{line_at, least_line, rises_after, best_price}
unfoldable pub use Rattle.uc_model.specs.Envelope.{envelope}
pub use Rattle.plain_lists.specs.Ranges.{IsFrom}
pub use Rattle.uc_model.specs.Limits.{IsThermalUnit, AreOneLength}
pub use Rattle.uc_model.specs.PlainUnits.{thermal_of, schedule_of, prices_of}
pub use Rattle.uc_model.specs.Schedules.{IsPeriod, IsThermalFeasible, on_in, starts_in, stops_in, mark_in, above_min}
pub use Rattle.uc_model.specs.Schedules.{above_with_reserve, cap_of, time_down}
pub use Rattle.plain_lists.specs.Sums.{sum_below, int_at}
pub use Rattle.uc_model.specs.Ties.{tie_numbers, ComesBefore, IsLeast}
pub use Rattle.uc_model.specs.declared.units.Point.{Point}
