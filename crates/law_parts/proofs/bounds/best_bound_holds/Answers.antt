use Rattle.law_parts.proofs.BestLaws.{best_holds}
use Rattle.law_parts.proofs.bounds.best_bound_holds.Goals as goal

pub returns : goal.returns
returns c = best_holds
