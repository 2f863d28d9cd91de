use Rattle.std.proofs.Common.{rules}
use Rattle.price_space.proofs.full_load.full_load_price.Goals as goal

-- (found at once by this search alone, and slowly by all that is tried without an answer)
pub returns-then-unit-eq0 : goal.returns-then-unit-eq0
returns-then-unit-eq0 c = search rules

pub envelope_at-requires-clause-within : goal.envelope_at-requires-clause-within
envelope_at-requires-clause-within c = search rules

pub cost_per_kilowatt-requires-clause-cost : goal.cost_per_kilowatt-requires-clause-cost
cost_per_kilowatt-requires-clause-cost c = search rules

pub returns : goal.returns
returns c = search rules
