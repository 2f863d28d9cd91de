use Rattle.text_tokens.proofs.Common.{◌≡◌, ℕ, List, subst, ◌∙◌, string_bytes, IfOk}
use Rattle.text_tokens.proofs.Lemmas.{plain_said, plain_utf8}
use Rattle.text_tokens.proofs.strings.decode_quoted_string.Goals as goal

pub unreachable-requires : goal.unreachable-requires
unreachable-requires c = c.in-Err.ensures.cases.0
    (plain_utf8 c.args.quoted.bytes.now c.in-Some.len c.args.quoted.closed c.in-Some.ensures.is)

pub returns : goal.returns
returns c = subst (λ (bs : List ℕ). IfOk c.from_str.result (λ text. string_bytes text ≡ bs))
    (c.in-Ok.ensures.cases.0 ∙ plain_said c.args.quoted.bytes.now c.in-Some.len c.args.quoted.closed
    c.in-Some.ensures.is) c.from_str.ensures.ok
