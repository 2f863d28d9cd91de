-- The names that the proofs of this crate take from its specs and from other crates, passed on from one place.
pub use Rattle.std.proofs.Common.{◌≡◌, ℕ, zero, suc, ◌+◌, ◌-◌, ◌*◌, ◌<◌, ◌≤◌, Bool, true, false, cond, List, [], ◌∷◌}
pub use Rattle.std.proofs.Common.{◌++◌, length, get_or, take, drop, Option, Some, None, Result, Ok, Err, refl, sym, ap}
pub use Rattle.std.proofs.Common.{◌∙◌, subst, arith, inl, inr, ◌⊎◌, append_assoc, length-append, map, ℤ, true≢false}
pub use Rattle.std.proofs.Common.{replicate, ◌==◌, ◌&&◌}
pub use Rattle.std.proofs.lemmas.Bool.Decides.{nat_tests}
pub use Rattle.std.proofs.lemmas.List.{get_or-append_right, get_or-drop, get_or-take, length-take, take-append-le}
pub use Rattle.std.proofs.lemmas.List.{take_all, length-replicate}
pub use Rattle.std.proofs.lemmas.List.Elements.{All-from_recursion, All-nil, All-push}
pub use Rattle.std.proofs.lemmas.Str.{IsUtf8-encode, IsUtf8-append, IsUtf8-take, IsUtf8-drop, IsUtf8-from_is_utf8}
pub use Rattle.std.proofs.lemmas.Str.{IsCharBoundary-before_ascii, IsCharBoundary-after_ascii}
pub use Rattle.std.specs.Char.{encode_utf8, IsScalar}
pub use Rattle.std.specs.List.{AllByRecursion, All}
pub use Rattle.std.specs.Prelude.{IsUtf8, min, nat_lt, nat_eq, bytes_eq, option_map, option_and_then, slice_index, pos}
pub use Rattle.std.specs.Prelude.{negsuc, unsigned_abs, int_lt, codes, nat_abs, not}
pub use Rattle.std.specs.Str.{is_utf8}
pub use Rattle.std.proofs.lemmas.Bool.{ltb-false, eqb-true}
pub use Rattle.uc_case.specs.Cases.{whole, AllUnits, HorizonNeeds}
unfoldable pub use Rattle.uc_case.specs.Cases.{units, thermal, renewable, bid, bids, all_units, horizon, needs}
unfoldable pub use Rattle.uc_case.specs.Cases.{keyed_case, case_of}
pub use Rattle.uc_text.specs.Files.{reading_of, of_value}
pub use Rattle.uc_field.specs.Forms.{Read, at_item, items, Keys, keys, key, key_or_none, under, part, decimal}
unfoldable pub use Rattle.uc_field.specs.Forms.{amount, cost, time_within, flag, few, full}
pub use Rattle.uc_field.specs.Kept.{AreLags, ArePoints, AreBlocks, IsPointList}
pub use Rattle.uc_case.specs.Kept.{IsRange, AreRamps, IsPast, IsThermalOf}
pub use Rattle.uc_case.specs.Kept.{IsRenewableOf, IsBidOf, AreUnitLists, AreNeeds, AreAllUnits}
pub use Rattle.uc_field.specs.Sites.{site, item_at, field_at}
pub use Rattle.uc_field.specs.Lists.{one_power, mark}
pub use Rattle.uc_case.specs.Tables.{first_crossed, at_least_one, UnitLists}
unfoldable pub use Rattle.uc_field.specs.Lists.{lag, startup, point, piecewise, commitment}
unfoldable pub use Rattle.uc_case.specs.Tables.{output, ramps, past}
unfoldable pub use Rattle.uc_field.specs.Lists.{powers, block, period_blocks, blocks}
unfoldable pub use Rattle.uc_case.specs.Tables.{thermal_unit, renewable_unit}
unfoldable pub use Rattle.uc_field.specs.Lists.{lag_in, point_in, block_in, window_items, window}
unfoldable pub use Rattle.uc_case.specs.Tables.{bid_unit, unit_lists}
unfoldable pub use Rattle.uc_case.specs.Tables.{keyed_unit, keyed_renewable}
pub use Rattle.uc_text.specs.Words.{position, last_is, need, refuse}
unfoldable pub use Rattle.uc_text.specs.Words.{each}
pub use Rattle.uc_field.specs.declared.fault.Site.{Site}
pub use Rattle.plain_lists.specs.Ranges.{IsFrom}
pub use Rattle.uc_model.specs.Data.{ThermalUnit, RenewableUnit, BidUnit, NamedThermalUnit, NamedRenewableUnit}
pub use Rattle.uc_model.specs.Data.{NamedBidUnit, Market}
pub use Rattle.text_tokens.specs.Rounding.{rounded}
pub use Rattle.uc_model.specs.Limits.{IsPower, IsThermalUnit, IsRenewableUnit, IsLag, IsPoint, IsBlock, IsBlockList}
pub use Rattle.uc_model.specs.Limits.{IsCost, IsStartCost, IsBidUnit, IsMarket}
pub use Rattle.uc_model.specs.declared.units.Block.{Block}
pub use Rattle.uc_model.specs.declared.units.Lag.{Lag}
pub use Rattle.uc_model.specs.declared.units.Point.{Point}
pub use Rattle.uc_text.specs.Pairs.{Pair}
pub use Rattle.uc_text.specs.Values.{Value}
