use Rattle.text_tokens.proofs.Common.{ap, arith, is_some, len_or}
use Rattle.text_tokens.proofs.Lemmas.{shortest_is, shortest_says}
use Rattle.text_tokens.proofs.quoted.Quoted.empty.Goals as goal

pub invariant_of-result-clause-closed : goal.invariant_of-result-clause-closed
invariant_of-result-clause-closed c = ap is_some shortest_is

pub invariant_of-result-clause-within : goal.invariant_of-result-clause-within
invariant_of-result-clause-within c = omega (arith, ap len_or shortest_is)

pub returns : goal.returns
returns c = shortest_says
