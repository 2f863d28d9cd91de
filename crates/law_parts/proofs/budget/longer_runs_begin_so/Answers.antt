use Rattle.law_parts.proofs.Fronts.{begins_so}
use Rattle.law_parts.proofs.budget.longer_runs_begin_so.Goals as goal

pub returns : goal.returns
returns c = begins_so c.rows_of_run_are_unique.ensures
