use Rattle.spell_run.proofs.JoinLaws as joins
use Rattle.spell_run.proofs.laws.dispatches_are_runs.Goals as goal

pub returns : goal.returns
returns c = joins.dispatches_are_runs
