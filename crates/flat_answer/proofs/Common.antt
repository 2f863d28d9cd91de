-- The names that the proofs of this crate take from its specs and from other crates, passed on from one place.
pub use Rattle.std.proofs.Common.{◌≡◌, ℕ, zero, suc, ◌+◌, ◌≤◌, ◌<◌, ◌⊎◌, inl, inr, ⊎_elim, Bool, true, false, ℤ, pos}
pub use Rattle.std.proofs.Common.{neg_ℤ, ◌+ℤ◌, ◌-ℤ◌, ◌*ℤ◌, ◌≤ℤ◌, ◌<ℤ◌, int_lt, if◌then◌else◌, List, [], ◌∷◌, drop}
pub use Rattle.std.proofs.Common.{length, slice_index_or, refl, ap, sym, ◌∙◌, arith, Some, map, slice_get, slice_index}
pub use Rattle.std.proofs.Common.{cond, ◌++◌, reverse, get_or, subst, ◌*◌, IsTrue, set, add-one, below_more}
pub use Rattle.std.proofs.Common.{get_or-set_same, get_or-set_other, rules, FitsSigned}
pub use Rattle.std.proofs.Math.IntN.{*ℤ_comm, *ℤ-zero}
pub use Rattle.std.proofs.lemmas.Int.{ints, clamps, by_lt_z, to_z-of_z}
pub use Rattle.std.proofs.lemmas.List.{drop_more, drop_all, reverse-append, length-set, ext_get_or}
pub use Rattle.std.specs.Int.{int_min, w64}
pub use Rattle.flat_answer.specs.Choices.{IsLeastChoice, IsWithinBlocks, bought_at, added_power, added_gain, IsBetween}
pub use Rattle.flat_answer.specs.Choices.{sold_at, IsLeastBest, with_power}
pub use Rattle.plain_lists.proofs.IntLaws.{mul-sub, mul-add, mul-mono_of, sum_below-same, sum_below-sub, sum_below-zero}
pub use Rattle.plain_lists.proofs.IntLaws.{sum_below-le}
pub use Rattle.plain_lists.proofs.SignedLaws.{IsWithin, sum_within, product_within, fits_within}
pub use Rattle.uc_model.specs.Data.{RenewableUnit, BidUnit, Flat, Bid, PriceLists, Schedule, AnyUnit}
pub use Rattle.uc_model.specs.Earnings.{worth_of, earnings, IsBest}
pub use Rattle.plain_lists.specs.Ranges.{IsFrom}
pub use Rattle.uc_model.specs.Limits.{IsBlock, IsBlockList, price_limit}
pub use Rattle.uc_model.specs.PlainUnits.{renewable_of, prices_of, schedule_of, bid_of}
pub use Rattle.uc_model.specs.Schedules.{width_of, blocks_at, IsFeasible, IsSchedule}
pub use Rattle.plain_lists.specs.Sums.{int_at, sum_below}
pub use Rattle.uc_model.specs.Ties.{ComesBefore, tie_numbers, IsLeast}
pub use Rattle.uc_model.specs.declared.units.Block.{Block}
