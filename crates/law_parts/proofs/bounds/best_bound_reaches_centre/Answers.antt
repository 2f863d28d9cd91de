use Rattle.law_parts.proofs.BestLaws.{best_reaches}
use Rattle.law_parts.proofs.bounds.best_bound_reaches_centre.Goals as goal

pub returns : goal.returns
returns c = best_reaches
