-- The names that the proofs of this crate take from its specs and from other crates, passed on from one place.
pub use Rattle.std.proofs.Common.{◌≡◌, ℕ, List, Result, Ok, Err, ap, suc, ◌+◌, ◌<◌, ◌∷◌, length, get_or, drop}
pub use Rattle.std.proofs.Common.{refl, sym, ◌∙◌, ◌≤◌, false, arith, zero, Bool, true, [], map}
pub use Rattle.std.proofs.Common.{if◌then◌else◌, w64, to_z, of_z, ◌++◌, subst, ◌==◌, ◌&&◌, rules}
pub use Rattle.std.proofs.lemmas.Bool.Decides.{nat_tests}
pub use Rattle.std.proofs.lemmas.Int.{ints, to_z-of_z}
pub use Rattle.std.proofs.lemmas.List.{length-map, map_push}
pub use Rattle.std.proofs.lemmas.List.Elements.{All-push}
pub use Rattle.std.proofs.lemmas.Result.{err_from_is_err_and}
pub use Rattle.std.specs.List.{All}
pub use Rattle.std.specs.Prelude.{ℤ, pos, negsuc, int_lt, ◌≤ℤ◌, codes}
pub use Rattle.uc_case.specs.Cases.{each_member, AllUnits, HorizonNeeds, no_unit, joined_case}
unfoldable pub use Rattle.uc_case.specs.Cases.{units, renewable, bids, all_units, horizon, needs, keyed_case, case_of}
pub use Rattle.uc_text.proofs.EachLaws.{goes_on, ends, counted, is_done}
pub use Rattle.uc_text.specs.Files.{FileFault, text, value, reading_of, of_value}
pub use Rattle.uc_field.specs.Forms.{Read}
unfoldable pub use Rattle.uc_field.specs.Forms.{amount, time_within, full}
unfoldable pub use Rattle.uc_text.specs.Inside.{value_under}
pub use Rattle.uc_case.specs.Kept.{IsRange, AreRamps, IsPast, AreUnitLists}
pub use Rattle.uc_case.specs.Kept.{AreNeeds, AreAllUnits}
pub use Rattle.uc_case.specs.Laws.{CaseFileHasOneValueOrOneFault}
pub use Rattle.uc_field.specs.Sites.{site}
pub use Rattle.uc_case.specs.Tables.{first_crossed, UnitLists, joined_unit}
unfoldable pub use Rattle.uc_field.specs.Lists.{powers}
unfoldable pub use Rattle.uc_case.specs.Tables.{renewable_unit, keyed_renewable}
pub use Rattle.uc_text.specs.Words.{position}
unfoldable pub use Rattle.uc_text.specs.Words.{each}
pub use Rattle.uc_field.specs.declared.fault.FieldFault.{FieldFault}
pub use Rattle.uc_field.specs.declared.fault.Site.{Site}
pub use Rattle.uc_model.specs.Limits.{IsPower, IsOutput, IsThermalUnit, IsRenewableUnit}
pub use Rattle.uc_model.specs.Limits.{IsMarket}
pub use Rattle.uc_text.specs.Pairs.{Pair, items_of, members_of}
pub use Rattle.uc_text.specs.Texts.{IsFirstFault}
pub use Rattle.uc_text.specs.View.{tree_view}
pub use Rattle.uc_text.specs.Values.{Value, list, object, scalar, number}
pub use Rattle.uc_text.specs.View.{member_view, member_views, view}
pub use Rattle.uc_text.specs.declared.object.Member.{Member}
