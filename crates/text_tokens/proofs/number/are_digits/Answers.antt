use Rattle.text_tokens.proofs.Common.{◌∙◌, sym, arith, nat_tests}
use Rattle.text_tokens.proofs.Lemmas.{all_digits}
use Rattle.text_tokens.proofs.number.are_digits.Goals as goal

pub returns-then-not-is_empty-clause-digits : goal.returns-then-not-is_empty-clause-digits
returns-then-not-is_empty-clause-digits c =
    λ t. all_digits c.args.bytes.now (sym c.digits_len.ensures ∙ grind (arith, nat_tests, t))
