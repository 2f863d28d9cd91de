-- The lemmas that answers cite, passed on from one place.
pub use Rattle.text_tokens.proofs.Ahead.{blank_step, end_step, next_token, number_and_comma_step, mark_step}
pub use Rattle.text_tokens.proofs.Digits.{digit_range, digit_at, value_step, goes_above, one_more_is_large, no_more}
pub use Rattle.text_tokens.proofs.Escapes.{no_second, ascii_is_utf8, piece_keeps, reaches, all_read, at_most_four}
pub use Rattle.text_tokens.proofs.NumberParts.{digits_in_front, short_enough, all_digits, too_many, too_far}
pub use Rattle.text_tokens.proofs.NumberParts.{exponent_is, grown}
pub use Rattle.text_tokens.proofs.PlainStrings.{plain_is, plain_said, plain_utf8}
pub use Rattle.text_tokens.proofs.Runs.{run_ends, run_is_all, run_within}
pub use Rattle.text_tokens.proofs.SaidTexts.{says_other, says_rest, PassesPlain, passes_none, passes_one, same_one}
pub use Rattle.text_tokens.proofs.SaidTexts.{says_plain_other}
pub use Rattle.text_tokens.proofs.ShortNumbers.{whole_number, fraction_number, first_digit, value_takes}
pub use Rattle.text_tokens.proofs.Shortest.{shortest_is, shortest_says, says_nothing, says_that}
pub use Rattle.text_tokens.proofs.Texts.{raw_utf8, no_string, not_utf8, string_of_len, closed, not_utf8_test, ends}
pub use Rattle.text_tokens.proofs.Texts.{closes, goes_on, is_none, said_goes_on, nothing_said, said_is, never}
pub use Rattle.text_tokens.proofs.Texts.{len_goes_on, quote_len}
pub use Rattle.text_tokens.proofs.Nearest.{rounded_is, rounded_only, cut_to_none, cut_up, cut_down, size_right}
pub use Rattle.text_tokens.proofs.Nearest.{size_left, size-rounded, rounded_plus, rounded_minus, refused, answered}
pub use Rattle.text_tokens.proofs.Powers.{ten_some, ten_up, whole_right, whole_far, whole_none, whole_is_multiple}
pub use Rattle.text_tokens.proofs.Powers.{multiple_is_whole, same_test}
