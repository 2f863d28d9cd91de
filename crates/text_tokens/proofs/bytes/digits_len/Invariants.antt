use Rattle.text_tokens.proofs.Common.{◌≡◌, ℕ, ◌<◌, true, get_or, is_ascii_digit}
use Rattle.text_tokens.proofs.bytes.digits_len.Given as goal

abbrev pub invariant-loop-i : goal.invariant-loop-i
invariant-loop-i l = (k : ℕ) → k < l.i → is_ascii_digit (get_or l.bytes k 0) ≡ true
