use Rattle.law_parts.proofs.Holds.{bound_reaches}
use Rattle.law_parts.proofs.bounds.mixture_bound_reaches_centre.Goals as goal

pub returns : goal.returns
returns c = bound_reaches
