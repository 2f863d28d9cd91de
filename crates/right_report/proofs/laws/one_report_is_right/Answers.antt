use Rattle.right_report.proofs.Lemmas.{one_right_report}
use Rattle.right_report.proofs.laws.one_report_is_right.Goals as goal

pub returns : goal.returns
returns c = one_right_report c.least_best_schedule_is_unique.ensures
