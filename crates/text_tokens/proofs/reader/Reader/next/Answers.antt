use Rattle.text_tokens.proofs.Common.{◌+◌, refl, rest_at}
use Rattle.text_tokens.specs.Seen.{token_of}
use Rattle.text_tokens.proofs.Lemmas.{mark_step}
use Rattle.text_tokens.proofs.reader.Reader.next.Goals as goal

pub returns-in-Some-clause-next : goal.returns-in-Some-clause-next
returns-in-Some-clause-next c =
    let bytes = c.args.self.now.bytes.now in
    let at = c.args.self.now.at in (
      rest_at bytes (at + 1),
      mark_step bytes at (token_of c.in-Some.token) c.if-offset-self.true c.in-Some.ensures.shown
          c.in-Some.ensures.is,
      λ h. refl,
    )
