use Rattle.law_parts.proofs.Mean.{bound_above}
use Rattle.law_parts.proofs.bounds.bound_holds.Goals as goal

pub returns : goal.returns
returns c = bound_above
