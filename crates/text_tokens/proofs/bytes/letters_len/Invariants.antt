use Rattle.text_tokens.proofs.Common.{◌≡◌, ℕ, ◌<◌, true, get_or, is_letter}
use Rattle.text_tokens.proofs.bytes.letters_len.Given as goal

abbrev pub invariant-loop-i : goal.invariant-loop-i
invariant-loop-i l = (k : ℕ) → k < l.i → is_letter (get_or l.bytes k 0) ≡ true
