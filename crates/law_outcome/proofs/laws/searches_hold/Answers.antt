use Rattle.law_outcome.proofs.ConvexPromise.{convex_at_0}
use Rattle.law_outcome.proofs.laws.searches_hold.Goals as goal

pub returns : goal.returns
returns g c words old new before after n h a same z =
    convex_at_0 c.bytes_are_those_read.ensures c.cases_are_within.ensures c.payments_and_surplus_make_the_gap.ensures
    c.mixture_bound_holds.ensures c.mixture_bound_reaches_centre.ensures c.payments_reach_least.ensures a _ _ _ _ words
    n h.reads h.end h.are_reads h.ends h.status_is same z
