-- The names that the proofs of this crate take from its specs and from other crates, passed on from one place.
pub use Rattle.std.proofs.Common.{◌≢◌, Option, ◌≡◌, ℕ, suc, ◌<◌, ◌≤◌, ◌⊎◌, inl, inr, Bool, true, false, cond, Some}
pub use Rattle.std.proofs.Common.{None, ℤ, pos, ◌+ℤ◌, ◌-ℤ◌, ◌*ℤ◌, ◌≤ℤ◌, List, [], ◌∷◌, ◌++◌, map, length, refl, sym, ap}
pub use Rattle.std.proofs.Common.{◌∙◌, subst, arith, reverse, neg_ℤ, zero, ◌+◌, ◌^◌, negsuc, take, drop, get_or}
pub use Rattle.std.proofs.Common.{append_assoc, ◌*◌, to_z, of_z, lit<, replicate}
pub use Rattle.std.proofs.Math.IntN.{*ℤ_comm, *ℤ-zero, suc_ℤ-*ℤ, zero-*ℤ, +ℤ_one, pred_ℤ-*ℤ, -ℤ_one, ℤ_ind, pos-*ℤ-pos}
pub use Rattle.std.proofs.Math.Nat.{mul-le-mul_left}
pub use Rattle.std.proofs.lemmas.Int.{ints, clamps, fits_signed_from_abs, to_z-of_z}
pub use Rattle.std.proofs.lemmas.List.{reverse-reverse, append-nil, take-append-drop, take_more, drop_more}
pub use Rattle.std.specs.Int.{Width}
pub use Rattle.std.specs.List.{All, AllZip, flat_map}
pub use Rattle.std.specs.Option.{option_map}
pub use Rattle.std.specs.Prelude.{IfSome, slice_set, slice_get, slice_index_or, FitsSigned, unsigned_abs}
pub use Rattle.plain_lists.specs.Ranges.{IsFrom}
pub use Rattle.plain_lists.specs.Sums.{total, sum_below, zip_with, clamped}
