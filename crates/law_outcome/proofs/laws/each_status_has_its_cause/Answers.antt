use Rattle.law_outcome.proofs.Common.{words_of}
use Rattle.law_outcome.proofs.Lemmas.{has_cause}
use Rattle.law_outcome.proofs.laws.each_status_has_its_cause.Goals as goal

pub returns : goal.returns
returns g c words old new before after n h =
    has_cause (words_of words) _ _ _ _ n h.reads h.end h.are_reads h.ends h.status_is
