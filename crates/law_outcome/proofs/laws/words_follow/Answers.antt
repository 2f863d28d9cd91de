use Rattle.law_outcome.proofs.Common.{words_of}
use Rattle.law_outcome.proofs.Lemmas.{words_follow}
use Rattle.law_outcome.proofs.laws.words_follow.Goals as goal

pub returns : goal.returns
returns g c words old new before after n h = words_follow (words_of words) _ _ n h.reads h.end h.ends h.status_is
