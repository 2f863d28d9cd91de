use Rattle.law_outcome.proofs.Common.{words_of}
use Rattle.law_outcome.proofs.SettlePromise.{settlement_holds}
use Rattle.law_outcome.proofs.laws.settlements_hold.Goals as goal

pub returns : goal.returns
returns g c words old new before after n h a same =
    settlement_holds c.bytes_are_those_read.ensures c.payments_and_surplus_make_the_gap.ensures
    c.prices_are_per_period_and_within_limits.ensures
    c.prices_file_has_one_value_or_one_fault.ensures a _ _ _ _ (words_of words) n h.reads h.end h.are_reads h.ends
    h.status_is same
