use Rattle.text_tokens.proofs.Common.{◌<◌, length, ◌+◌, [], refl, sym, ◌∙◌, arith, rest_at}
use Rattle.text_tokens.specs.Seen.{token_of}
use Rattle.text_tokens.proofs.Lemmas.{end_step, next_token}
use Rattle.text_tokens.proofs.reader.Reader.next_token_of_any_kind.Goals as goal

pub returns-then-offset-self-clause-next : goal.returns-then-offset-self-clause-next
returns-then-offset-self-clause-next c =
    let now = c.pass_blanks.new.self in
    ([], sym c.pass_blanks.ensures.rest ∙ end_step now.bytes.now now.at (omega arith), λ h. absurd cc)

pub returns-then-offset-self-clause-last : goal.returns-then-offset-self-clause-last
returns-then-offset-self-clause-last c = λ h.
    let now = c.pass_blanks.new.self in
    sym c.pass_blanks.ensures.rest ∙ end_step now.bytes.now now.at (omega arith)

pub returns-clause-next : goal.returns-clause-next
returns-clause-next c =
    let now = c.pass_blanks.new.self in
    let lt : now.at < length now.bytes.now = omega (arith, now.within, c.if-offset-self.false) in
    let e = next_token now.bytes.now c.bytes_from.result.now now.at (token_of c.token_at-len.result.0)
    c.token_at-len.result.1 lt (c.pass_blanks.ensures.passed lt) c.bytes_from.ensures c.token_at-len.ensures.is
    c.token_at-len.ensures.some c.token_at-len.ensures.within in
    (rest_at now.bytes.now (now.at + c.token_at-len.result.1), sym c.pass_blanks.ensures.rest ∙ e, λ h. refl)
