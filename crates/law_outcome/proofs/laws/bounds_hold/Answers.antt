use Rattle.law_outcome.proofs.BoundPromise.{bound_at_0}
use Rattle.law_outcome.proofs.laws.bounds_hold.Goals as goal

pub returns : goal.returns
returns g c words old new before after n h a same z =
    bound_at_0 c.words_have_numbers_in_range.ensures c.run_bounds_hold.ensures c.one_row_is_chosen.ensures a words _ _
    _ _ n
    h.reads h.end h.are_reads h.ends h.status_is same z
