use Rattle.right_report.proofs.RunsExist.{runs_exist}
use Rattle.right_report.proofs.laws.runs_exist.Goals as goal

pub returns : goal.returns
returns c = runs_exist
