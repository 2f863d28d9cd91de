use Rattle.law_outcome.proofs.FixedPromise.{fixed_at_0}
use Rattle.law_outcome.proofs.laws.both_gaps_are_made_up.Goals as goal

pub returns : goal.returns
returns g c words old new before after n h a same z =
    fixed_at_0 c.words_have_numbers_in_range.ensures c.payments_of_fixed_report_side_make_up_the_gap.ensures
    c.run_prices_are_within.ensures
    c.payments_are_at_least_zero.ensures a words _ _ _ _ n h.reads h.end h.are_reads h.ends h.status_is same z
