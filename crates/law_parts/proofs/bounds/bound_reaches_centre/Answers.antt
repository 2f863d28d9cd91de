use Rattle.law_parts.proofs.Box.{bound_at_centre}
use Rattle.law_parts.proofs.bounds.bound_reaches_centre.Goals as goal

pub returns : goal.returns
returns c = bound_at_centre
