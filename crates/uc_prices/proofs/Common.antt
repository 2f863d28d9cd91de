-- The names that the proofs of this crate take from its specs and from other crates, passed on from one place.
pub use Rattle.std.proofs.Common.{◌≡◌, ℕ, ◌+◌, ◌<◌, ◌≤◌, List, [], ◌∷◌, ◌++◌, length, get_or, drop, Result, Ok}
pub use Rattle.std.proofs.Common.{Err, Some, None, refl, sym, ap, ◌∙◌, arith, subst, Bool, true, false, true≢false, w64}
pub use Rattle.std.proofs.Common.{rules, ◌&&◌}
pub use Rattle.std.proofs.lemmas.Bool.{ltb-false}
pub use Rattle.std.proofs.lemmas.Int.{ints, to_z-of_z}
pub use Rattle.std.proofs.lemmas.List.Elements.{All-nil, All-push}
pub use Rattle.std.proofs.lemmas.Result.{err_from_is_err_and}
pub use Rattle.std.specs.List.{All}
pub use Rattle.std.specs.Prelude.{ℤ, pos, negsuc, unsigned_abs, nat_lt, int_lt, FitsSigned}
pub use Rattle.uc_text.specs.View.{view, views}
pub use Rattle.uc_text.proofs.EachLaws.{goes_on, ends, is_done, counted}
pub use Rattle.uc_text.specs.Files.{FileFault, text, value, reading_of, of_value}
pub use Rattle.uc_text.specs.Magnitudes.{most_price}
pub use Rattle.uc_text.specs.Words.{position}
unfoldable pub use Rattle.uc_text.specs.Words.{each}
pub use Rattle.uc_model.specs.Data.{PriceLists}
pub use Rattle.uc_model.specs.PlainUnits.{prices_of}
pub use Rattle.uc_prices.specs.Faults.{item_at}
pub use Rattle.uc_prices.specs.Kept.{IsPriceOf}
pub use Rattle.uc_prices.specs.Tables.{Read, is_reserve, price, prices_in}
unfoldable pub use Rattle.uc_prices.specs.Tables.{prices}
pub use Rattle.uc_prices.specs.declared.fault.PriceFault.{PriceFault}
pub use Rattle.uc_prices.specs.declared.fault.PriceSite.{PriceSite}
pub use Rattle.uc_text.specs.View.{tree_view}
