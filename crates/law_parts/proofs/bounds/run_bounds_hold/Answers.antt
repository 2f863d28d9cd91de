use Rattle.law_parts.proofs.RunRows.{run_bounds_hold}
use Rattle.law_parts.proofs.bounds.run_bounds_hold.Goals as goal

pub returns : goal.returns
returns c = run_bounds_hold
