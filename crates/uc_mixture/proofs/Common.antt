-- The names that the proofs of this crate take from its specs and from other crates, passed on from one place.
pub use Rattle.std.proofs.Common.{◌≡◌, ℕ, suc, ◌+◌, ◌*◌, ◌<◌, ◌≤◌, List, [], ◌∷◌, ◌++◌, length, map, get_or, drop, take}
pub use Rattle.std.proofs.Common.{Result, Ok, Err, Option, Some, None, refl, sym, ap, ◌∙◌, arith, subst, Bool, true}
pub use Rattle.std.proofs.Common.{false, true≢false, w64, to_z, of_z, rules, ◌&&◌, not}
pub use Rattle.std.proofs.lemmas.Bool.{ltb-false}
pub use Rattle.std.proofs.lemmas.Int.{ints, to_z-of_z}
pub use Rattle.std.proofs.lemmas.Option.{slice_get-get_or}
pub use Rattle.std.proofs.lemmas.List.{map_push, length-map}
pub use Rattle.std.proofs.lemmas.List.Elements.{All-nil, All-push}
pub use Rattle.std.proofs.lemmas.Result.{err_from_is_err_and}
pub use Rattle.std.specs.List.{All, AllZip}
pub use Rattle.std.specs.Int.{cast_signed, w128}
pub use Rattle.std.specs.Prelude.{ℤ, slice_get, pos, negsuc, neg_ℤ, ◌+ℤ◌, ◌≤ℤ◌, unsigned_abs, nat_lt, int_lt, int_le}
pub use Rattle.std.specs.Prelude.{FitsSigned}
pub use Rattle.gap_proof.specs.Mixtures.{WeighedSchedule, MixtureLists, entry_of, entries_of, mixture_of, AreShares}
pub use Rattle.gap_proof.specs.Mixtures.{AreEntries, IsOver, HasMixtureShape, most_whole}
pub use Rattle.plain_lists.proofs.SignedLaws.{IsWithin, fits_within}
pub use Rattle.plain_lists.specs.Ranges.{IsFrom}
pub use Rattle.plain_lists.specs.Sums.{total}
pub use Rattle.uc_text.specs.Pairs.{Pair}
pub use Rattle.uc_text.specs.Values.{Value}
pub use Rattle.uc_text.specs.View.{view, views, members_in}
pub use Rattle.uc_text.specs.declared.branch.Branch.{Branch}
pub use Rattle.uc_text.proofs.EachLaws.{goes_on, ends, is_done, counted}
pub use Rattle.uc_text.specs.Files.{FileFault, text, value, reading_of, of_value}
pub use Rattle.uc_text.specs.Given.{Fails}
pub use Rattle.uc_text.specs.Words.{◌>>=◌, ◌>>◌, need, position}
unfoldable pub use Rattle.uc_text.specs.Words.{each}
pub use Rattle.uc_text.specs.declared.stop.Stop.{Stop}
pub use Rattle.uc_model.specs.Data.{Market, NamedThermalUnit, thermal_names}
pub use Rattle.uc_model.specs.PlainCases.{market_of}
pub use Rattle.uc_mixture.specs.Faults.{site_of_unit, entry_at, within, stop_within}
pub use Rattle.uc_mixture.specs.Kept.{IsFrame, IsEntryIn}
pub use Rattle.uc_mixture.specs.Tables.{Read, weight_sum, frame_of}
unfoldable pub use Rattle.uc_mixture.specs.Tables.{entry, entries, unit_entries, named, units, head, mixture_in}
pub use Rattle.uc_mixture.specs.Views.{head_of, names_of}
pub use Rattle.uc_mixture.specs.declared.entries.Frame.{Frame}
pub use Rattle.uc_mixture.specs.declared.fault.ShareFault.{ShareFault}
pub use Rattle.uc_mixture.specs.declared.fault.ShareSite.{ShareSite}
pub use Rattle.uc_text.specs.View.{tree_view}
