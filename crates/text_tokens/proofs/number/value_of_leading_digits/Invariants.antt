use Rattle.text_tokens.proofs.Common.{◌≡◌, ℕ, ◌<◌, ◌^◌, true, get_or, take, is_ascii_digit, value_from}
use Rattle.text_tokens.proofs.number.value_of_leading_digits.Given as goal

abbrev pub invariant-loop-i : goal.invariant-loop-i
invariant-loop-i l = record {
  so_far : l.n ≡ value_from l.before (take l.i l.bytes);
  small : l.n < 10 ^ 9;
  digits : (k : ℕ) → k < l.i → is_ascii_digit (get_or l.bytes k 0) ≡ true;
}
