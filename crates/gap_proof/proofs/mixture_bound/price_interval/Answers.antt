use Rattle.std.proofs.Common.{rules}
use Rattle.gap_proof.proofs.mixture_bound.price_interval.Goals as goal

-- (found at once by this search alone, and slowly by all that is tried without an answer)
pub returns-clause-low : goal.returns-clause-low
returns-clause-low c = search rules

pub returns-clause-high : goal.returns-clause-high
returns-clause-high c = search rules

pub returns-clause-low_limit : goal.returns-clause-low_limit
returns-clause-low_limit c = search rules

pub returns-clause-high_limit : goal.returns-clause-high_limit
returns-clause-high_limit c = search rules

pub returns-clause-ordered : goal.returns-clause-ordered
returns-clause-ordered c = search rules
