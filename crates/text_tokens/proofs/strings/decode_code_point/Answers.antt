use Rattle.text_tokens.proofs.Common.{ℕ, subst, sym, IsScalar, IsUtf8-encode}
use Rattle.text_tokens.proofs.Lemmas.{at_most_four}
use Rattle.text_tokens.proofs.strings.decode_code_point.Goals as goal

pub returns-clause-utf8 : goal.returns-clause-utf8
returns-clause-utf8 c =
    let v = c.in_ok-from_u32.ensures.value in
    IsUtf8-encode c.in_ok-from_u32.field-0 (subst (λ (n : ℕ). IsScalar n) (sym v.1) v.0)

pub returns-clause-short : goal.returns-clause-short
returns-clause-short c = at_most_four c.in_ok-from_u32.field-0
