use Rattle.text_tokens.proofs.Common.{sym, ap, string_at, string_token}
use Rattle.text_tokens.proofs.token.string_at.Goals as goal

pub returns-in-Some-clause-is : goal.returns-in-Some-clause-is
unfolding string_at
returns-in-Some-clause-is c = sym (ap string_token c.in-Some.ensures.some)

pub returns-in-None-clause-is : goal.returns-in-None-clause-is
unfolding string_at
returns-in-None-clause-is c = sym (ap string_token c.in-None.ensures.none)
