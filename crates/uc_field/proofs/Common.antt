-- The names that the proofs of this crate take from its specs and from other crates, passed on from one place.
pub use Rattle.std.proofs.Common.{◌≡◌, ℕ, List, Ok, Err, ap, suc, ◌+◌, ◌<◌, ◌∷◌, length, get_or, drop, Some}
pub use Rattle.std.proofs.Common.{refl, sym, ◌∙◌, ◌≤◌, false, arith, true≢false, zero, Bool, true, [], map}
pub use Rattle.std.proofs.Common.{w64, ◌++◌, subst, ◌-◌, ◌||◌, rules}
pub use Rattle.std.proofs.lemmas.Bool.{ltb-false}
pub use Rattle.std.proofs.lemmas.Int.{ints, to_z-of_z}
pub use Rattle.std.proofs.lemmas.List.{length-map, map_push}
pub use Rattle.std.proofs.lemmas.List.Elements.{All-nil, All-push}
pub use Rattle.std.proofs.lemmas.Result.{err_from_is_err_and}
pub use Rattle.std.specs.List.{All}
pub use Rattle.std.specs.Prelude.{ℤ, pos, negsuc, neg_ℤ, unsigned_abs, nat_lt, int_lt, ◌≤ℤ◌, slice_get}
pub use Rattle.std.specs.Prelude.{FitsSigned}
pub use Rattle.uc_text.proofs.EachLaws.{goes_on, ends, counted, is_done}
pub use Rattle.uc_field.specs.Forms.{Read, items}
unfoldable pub use Rattle.uc_field.specs.Forms.{few}
pub use Rattle.uc_field.specs.Kept.{AreLags, ArePoints, AreBlocks, IsPointList}
pub use Rattle.uc_field.specs.Sites.{fault, item_at}
pub use Rattle.uc_field.specs.Lists.{ends_miss}
unfoldable pub use Rattle.uc_field.specs.Lists.{block, period_blocks}
pub use Rattle.uc_text.specs.Words.{position, last_is}
unfoldable pub use Rattle.uc_text.specs.Words.{each}
pub use Rattle.uc_field.specs.declared.fault.FieldFault.{FieldFault}
pub use Rattle.uc_field.specs.declared.fault.Site.{Site}
pub use Rattle.plain_lists.specs.Ranges.{IsFrom}
pub use Rattle.uc_model.specs.Limits.{Spans, IsLag, IsPoint, IsBlock}
pub use Rattle.uc_model.specs.Limits.{IsBlockList}
pub use Rattle.plain_lists.specs.Reserved.{Reserved, items_in}
pub use Rattle.uc_model.specs.declared.units.Block.{Block}
pub use Rattle.uc_model.specs.declared.units.Lag.{Lag}
pub use Rattle.uc_model.specs.declared.units.Point.{Point}
pub use Rattle.uc_text.specs.Values.{Value}
pub use Rattle.uc_text.specs.View.{view, views}
pub use Rattle.uc_text.specs.declared.branch.Branch.{Branch}
