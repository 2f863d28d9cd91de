use Rattle.std.proofs.Common.{rules}
use Rattle.cost_curve.proofs.walk.is_better_slope.Goals as goal

-- (found at once by this search alone, and slowly by all that is tried without an answer)
pub returns-then-new-found-clause-better : goal.returns-then-new-found-clause-better
returns-then-new-found-clause-better c = search rules

pub returns-then-new-found-clause-worse : goal.returns-then-new-found-clause-worse
returns-then-new-found-clause-worse c = search rules

pub returns-else-new-found-clause-better : goal.returns-else-new-found-clause-better
returns-else-new-found-clause-better c = search rules

pub returns-else-new-found-clause-worse : goal.returns-else-new-found-clause-worse
returns-else-new-found-clause-worse c = search rules
