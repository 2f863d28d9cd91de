use Rattle.right_report.proofs.ChosenRow.{one_is_chosen}
use Rattle.right_report.proofs.laws.one_row_is_chosen.Goals as goal

pub returns : goal.returns
returns c = one_is_chosen
