use Rattle.law_outcome.proofs.CertifyPromise.{Holds, certificate_holds}
use Rattle.law_outcome.proofs.laws.certificates_hold.Goals as goal

pub returns : goal.returns
returns g c words old new before after n h a same =
    let holds : Holds = record {
      within = c.cases_are_within.ensures;
      form = c.prices_are_per_period_and_within_limits.ensures;
      add_up = c.payments_and_surplus_make_the_gap.ensures;
      bound = c.mixture_bound_holds.ensures;
      reaches = c.mixture_bound_reaches_centre.ensures;
      least = c.payments_reach_least.ensures;
    } in
    certificate_holds c.bytes_are_those_read.ensures c.words_have_numbers_in_range.ensures holds
    c.prices_file_has_one_value_or_one_fault.ensures
    c.mixture_file_has_one_value_or_one_fault.ensures c.mixtures_break_no_rule.ensures a _ _ _ _ words n h.reads h.end
    h.are_reads h.ends
    h.status_is same
