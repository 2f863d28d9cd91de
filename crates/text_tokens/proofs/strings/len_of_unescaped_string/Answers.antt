use Rattle.text_tokens.proofs.Common.{◌≡◌, ◌<◌, ℕ, Some, take, get_or, length, sym, ap, subst, ◌∙◌, string_from}
use Rattle.text_tokens.proofs.Lemmas.{plain_is}
use Rattle.text_tokens.proofs.strings.len_of_unescaped_string.Goals as goal

pub returns-then-bytes-len-eq34-clause-is : goal.returns-then-bytes-len-eq34-clause-is
returns-then-bytes-len-eq34-clause-is c =
    let bs = c.args.bytes.now in
    let n = c.plain_len-len.ensures in
    subst (λ (k : ℕ). string_from 0 bs ≡ Some (take k bs, k)) (sym n)
    (plain_is bs (subst (λ (k : ℕ). k < length bs) n c.if-len-bytes.true)
    (ap (λ (k : ℕ). get_or bs k 0) (sym n) ∙ c.if-bytes-len-eq34.true))
