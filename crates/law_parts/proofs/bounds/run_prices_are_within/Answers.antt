use Rattle.law_parts.proofs.RunRows.{run_prices_within}
use Rattle.law_parts.proofs.bounds.run_prices_are_within.Goals as goal

pub returns : goal.returns
returns c = run_prices_within
