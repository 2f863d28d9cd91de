use Rattle.text_tokens.proofs.Lemmas.{plain_said}
use Rattle.text_tokens.proofs.quoted.Quoted.bytes_if_unescaped.Goals as goal

pub returns : goal.returns
returns c = plain_said c.args.self.bytes.now c.in_ok-len.len c.args.self.closed c.in_ok-len.ensures.is
