use Rattle.law_parts.proofs.Holds.{bound_holds}
use Rattle.law_parts.proofs.bounds.mixture_bound_holds.Goals as goal

pub returns : goal.returns
returns c = bound_holds
