use Rattle.text_tokens.proofs.Common.{◌≡◌, ℕ, ◌<◌, true, get_or, is_number_byte}
use Rattle.text_tokens.proofs.bytes.number_len.Given as goal

abbrev pub invariant-loop-i : goal.invariant-loop-i
invariant-loop-i l = (k : ℕ) → k < l.i → is_number_byte (get_or l.bytes k 0) ≡ true
