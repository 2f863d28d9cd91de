use Rattle.law_outcome.proofs.Common.{words_of}
use Rattle.law_outcome.proofs.Lemmas.{is_decided}
use Rattle.law_outcome.proofs.laws.what_was_read_decides.Goals as goal

pub returns : goal.returns
returns g c words old new before after n h quiet = (
  h.reads,
  h.are_reads,
  is_decided (words_of words) _ _ _ _ (c.one_thing_is_due.ensures words) n h.reads h.end h.are_reads quiet h.ends
      h.status_is,
)
