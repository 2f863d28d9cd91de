use Rattle.right_report.proofs.OneRun.{one_run}
use Rattle.right_report.proofs.laws.rows_of_run_are_unique.Goals as goal

pub returns : goal.returns
returns c = one_run c.least_best_schedule_is_unique.ensures
