use Rattle.text_tokens.proofs.Common.{ℕ, take, drop, ap, sym, subst, ◌∙◌, arith, AreDigits, is_ascii_digit, front}
use Rattle.text_tokens.proofs.Common.{behind}
use Rattle.text_tokens.proofs.Lemmas.{digits_in_front, run_within}
use Rattle.text_tokens.proofs.number.split_leading_digits.Goals as goal

pub bytes_from-requires : goal.bytes_from-requires
bytes_from-requires c = let le = run_within is_ascii_digit c.args.bytes.now in omega arith

pub returns-clause-front : goal.returns-clause-front
unfolding front
returns-clause-front c = ap (λ (n : ℕ). take n c.args.bytes.now) c.digits_len-len.ensures

pub returns-clause-behind : goal.returns-clause-behind
unfolding behind
returns-clause-behind c = c.bytes_from.ensures ∙ ap (λ (n : ℕ). drop n c.args.bytes.now) c.digits_len-len.ensures

pub returns-clause-digits : goal.returns-clause-digits
returns-clause-digits c = subst (λ (n : ℕ). AreDigits (take n c.args.bytes.now)) (sym c.digits_len-len.ensures)
    (digits_in_front c.args.bytes.now)
