use Rattle.text_tokens.proofs.Lemmas.{ascii_is_utf8}
use Rattle.text_tokens.proofs.strings.escape_at.Goals as goal

pub returns-then-letter-ne117-clause-utf8 : goal.returns-then-letter-ne117-clause-utf8
returns-then-letter-ne117-clause-utf8 c = ascii_is_utf8 c.in_ok-byte.byte c.in_ok-byte.ensures.ascii.0
