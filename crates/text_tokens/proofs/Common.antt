-- The names that the proofs of this crate take from its specs and from other crates, passed on from one place.
pub use Rattle.std.proofs.Common.{◌≡◌, ℕ, zero, suc, ◌+◌, ◌-◌, ◌<◌, ◌≤◌, Bool, true, false, cond, List, [], ◌∷◌}
pub use Rattle.std.proofs.Common.{length, get_or, drop, drop-cons, refl, sym, ap, ap₂, ◌∙◌, arith, ◌≢◌, ◌*◌, ◌^◌}
pub use Rattle.std.proofs.Common.{subst, inl, inr, lit<, ◌++◌, length-append, take, append_assoc, Option, Some, None}
pub use Rattle.std.proofs.Common.{true≢false, nat_le, ◌&&◌, if◌then◌else◌, ℤ, pos, neg_ℤ, ◌-ℤ◌, string_bytes, Vec}
pub use Rattle.std.proofs.Common.{Global, rules, FitsSigned, w32, ◌/◌, negsuc, ◌+ℤ◌, ◌*ℤ◌, ◌≤ℤ◌, ◌<ℤ◌, unsigned_abs}
pub use Rattle.std.proofs.Common.{Result, Ok, Err, ◌%◌, SomeIff, to_z, of_z, w64}
pub use Rattle.std.proofs.lemmas.Bool.{cases_lt}
pub use Rattle.std.proofs.lemmas.Bool.Decides.{nat_tests, eqb_tells, same_from_decides}
pub use Rattle.std.proofs.lemmas.List.{drop-drop, length-drop, drop_all, get_or-drop, take_all, take-append-le}
pub use Rattle.std.proofs.lemmas.List.{get_or-append_right, get_or-take, length-take, append-nil, take_more}
pub use Rattle.std.proofs.lemmas.List.Sums.{prefix_len_is, prefix_len_passes}
pub use Rattle.std.proofs.lemmas.Str.{IsUtf8-encode, IsUtf8-append, IsUtf8-take, IsUtf8-drop}
pub use Rattle.std.proofs.lemmas.Str.{IsCharBoundary-before_ascii, IsCharBoundary-after_ascii, encode_ascii}
pub use Rattle.std.proofs.lemmas.Str.{length-encode, len_utf8_bounds, IsUtf8-from_is_utf8, is_utf8-from_IsUtf8}
pub use Rattle.std.specs.Char.{encode_utf8, is_ascii_digit, IsScalar}
pub use Rattle.std.specs.List.{prefix_len}
pub use Rattle.std.specs.Prelude.{IsUtf8, option_map, is_some, nat_eq, nat_lt, option_and_then, IfOk}
pub use Rattle.text_tokens.specs.Grammar.{Token, end, comma, word}
pub use Rattle.text_tokens.specs.Numbers.{AreDigits, value_from, value, significant, begins_with, is_whole_part}
pub use Rattle.text_tokens.specs.Numbers.{is_number_byte}
unfoldable pub use Rattle.text_tokens.specs.Numbers.{exponent_of, number_token, front, behind, behind_fraction}
unfoldable pub use Rattle.text_tokens.specs.Numbers.{behind_whole, unsigned, number_of}
pub use Rattle.text_tokens.specs.Pieces.{seen_piece, piece_of}
pub use Rattle.text_tokens.specs.Offsets.{rest_at, Takes}
pub use Rattle.text_tokens.specs.Plain.{is_plain}
pub use Rattle.text_tokens.specs.Scalars.{number, long_number}
pub use Rattle.text_tokens.specs.Strings.{is_high, is_low, second_at, Piece, after_piece, len_or, text_or}
pub use Rattle.text_tokens.specs.Strings.{string_token}
unfoldable pub use Rattle.text_tokens.specs.Strings.{pair, unit_piece, string_from, string_of, piece_at, said}
unfoldable pub use Rattle.text_tokens.specs.Strings.{string_at}
pub use Rattle.text_tokens.specs.Tokens.{Lexed, lexed, is_blank, Read, number_at, is_letter}
unfoldable pub use Rattle.text_tokens.specs.Tokens.{token_at, tokens_from}
pub use Rattle.std.proofs.Math.Nat.{mul-le-mul_right, pow-le-pow_right, one-le-pow, mul-le-mul_left}
pub use Rattle.std.proofs.lemmas.Int.{ints, by_lt_z, to_z-of_z}
pub use Rattle.std.proofs.lemmas.Nat.{div_below, mod-mul-add}
pub use Rattle.text_tokens.specs.Rounding.{IsNearest, IsRounded, signed, zeros, places, size_cut, size_at}
pub use Rattle.text_tokens.specs.Rounding.{IsWholeValue, is_whole_value}
unfoldable pub use Rattle.text_tokens.specs.Rounding.{rounded_size, rounded}
pub use Rattle.text_tokens.specs.declared.decimal.Decimal.{Decimal}
