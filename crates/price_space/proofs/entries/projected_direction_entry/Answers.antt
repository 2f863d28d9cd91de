use Rattle.std.proofs.Common.{rules}
use Rattle.price_space.proofs.entries.projected_direction_entry.Goals as goal

-- (found at once by this search alone, and slowly by all that is tried without an answer)
pub returns-then-entry-lt0-clause-value : goal.returns-then-entry-lt0-clause-value
returns-then-entry-lt0-clause-value c = search rules

pub returns-else-entry-lt0-clause-value : goal.returns-else-entry-lt0-clause-value
returns-else-entry-lt0-clause-value c = search rules

pub returns-else-entry-lt0-clause-bound : goal.returns-else-entry-lt0-clause-bound
returns-else-entry-lt0-clause-bound c = search rules
