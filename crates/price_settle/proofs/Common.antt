-- The names that the proofs of this crate take from its specs and from other crates, passed on from one place.
pub use Rattle.std.proofs.Common.{◌≡◌, ℕ, zero, suc, ◌+◌, ◌<◌, Some, refl, sym, ap, ◌∙◌, arith, ◌≤◌, ℤ, pos, ◌+ℤ◌, ◌*ℤ◌}
pub use Rattle.std.proofs.Common.{length, w64, FitsSigned, List, [], ◌∷◌, ◌++◌, take, map, subst, neg_ℤ, ◌-ℤ◌}
pub use Rattle.std.proofs.Common.{length-append, rules, ◌*◌, Fits, w32}
pub use Rattle.std.proofs.lemmas.Int.{ints, to_z-of_z}
pub use Rattle.std.proofs.lemmas.List.{take_more, take_all}
pub use Rattle.std.proofs.lemmas.Option.{get_or_from_slice_get}
pub use Rattle.std.specs.Int.{w128}
pub use Rattle.std.specs.List.{All, AllZip, range_with_len}
pub use Rattle.std.specs.Prelude.{slice_get, slice_index}
pub use Rattle.plain_lists.proofs.ListLaws.{none_some, same_item, head_of, tail_of, item_of, map_item, zip_item}
pub use Rattle.plain_lists.proofs.ListLaws.{sum_more, zip_with_item, length-zip_with, length_same, zip_with-push}
pub use Rattle.plain_lists.proofs.ListLaws.{total-push}
pub use Rattle.uc_model.specs.Data.{ThermalUnit, Schedule, AnyUnit, Thermal, Flat, Bid, RenewableUnit, BidUnit, Market}
pub use Rattle.uc_model.specs.Data.{units, unit_count, PriceLists}
pub use Rattle.uc_model.specs.Earnings.{earnings, IsTop, revenue}
pub use Rattle.uc_model.specs.Laws.{HasPlanShape, OneLeast, PaymentsMakeUpTheGap, PaymentsAreAtLeastZero}
pub use Rattle.plain_lists.specs.Ranges.{IsFrom}
pub use Rattle.uc_model.specs.Limits.{IsUnit, IsEarned, ArePrices, AreOneLength, price_limit}
pub use Rattle.uc_model.specs.PlainCases.{market_of, schedules_of, unit_of}
pub use Rattle.uc_model.specs.PlainUnits.{schedule_of, thermal_of, bid_of, prices_of}
pub use Rattle.uc_model.specs.Schedules.{power_in, IsFeasible, reserve_in}
pub use Rattle.plain_lists.specs.Sums.{int_at, total, sum_below, zip_with}
pub use Rattle.uc_model.specs.Systems.{total_power, total_reserve, worth_of_demand, IsDualValue}
pub use Rattle.plain_lists.proofs.SignedLaws.{mul-neg, IsWithin, sum_within, signed_product_within, fits_within}
pub use Rattle.plain_lists.proofs.SignedLaws.{product_within}
pub use Rattle.price_settle.specs.Earned.{paid_for, earned_in, surplus_at}
pub use Rattle.std.proofs.lemmas.List.FromFn.{get_or-map-range_with_len, map-range_with_len_more}
pub use Rattle.uc_model.specs.PlanLaws.{UnitNumbersGoByKind, FeasiblePlansHaveShape}
pub use Rattle.price_settle.specs.Laws.{PlanHasAtMostOneSettlement, SettlementsAddUp, SettlementsHaveEachUnit}
