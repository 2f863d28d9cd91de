use Rattle.right_report.proofs.Lemmas.{one_side}
use Rattle.right_report.proofs.laws.right_side_of_fixed_report_is_unique.Goals as goal

pub returns : goal.returns
returns c = one_side c.least_best_schedule_is_unique.ensures
