use Rattle.law_parts.proofs.Holds.{payments_reach}
use Rattle.law_parts.proofs.bounds.payments_reach_least.Goals as goal

pub returns : goal.returns
returns c = payments_reach c.dual_is_at_most_cost.ensures c.payments_make_up_the_gap.ensures
