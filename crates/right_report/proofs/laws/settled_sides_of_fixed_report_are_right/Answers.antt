use Rattle.right_report.proofs.Lemmas.{sides_are_right}
use Rattle.right_report.proofs.laws.settled_sides_of_fixed_report_are_right.Goals as goal

pub returns : goal.returns
returns c = sides_are_right c.finished_history_is_whole_run.ensures
