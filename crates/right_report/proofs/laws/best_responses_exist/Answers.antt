use Rattle.right_report.proofs.ResponsesExist.{best_responses_exist}
use Rattle.right_report.proofs.laws.best_responses_exist.Goals as goal

pub returns : goal.returns
returns c = best_responses_exist
