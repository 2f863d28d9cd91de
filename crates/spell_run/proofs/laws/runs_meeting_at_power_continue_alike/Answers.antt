use Rattle.spell_run.proofs.JoinLaws as joins
use Rattle.spell_run.proofs.laws.runs_meeting_at_power_continue_alike.Goals as goal

pub returns : goal.returns
returns c = joins.runs_go_on
