use Rattle.law_outcome.proofs.Common.{words_of}
use Rattle.law_outcome.proofs.Lemmas.{accepted_is_feasible}
use Rattle.law_outcome.proofs.laws.accepted_is_feasible.Goals as goal

pub returns : goal.returns
returns c words reads i due = accepted_is_feasible (words_of words) reads i due
