use Rattle.law_outcome.proofs.Lemmas.{promised_at_0}
use Rattle.law_outcome.proofs.laws.reports_are_right.Goals as goal

pub returns : goal.returns
returns g c words old new before after n h a same z =
    promised_at_0 c.words_have_numbers_in_range.ensures c.bytes_are_those_read.ensures
    c.report_payments_make_up_the_gap.ensures
    c.run_prices_are_within.ensures c.payments_are_at_least_zero.ensures a _ _ _ _ words n h.reads h.end h.are_reads
    h.ends h.status_is same z
