use Rattle.right_report.proofs.RowsExist.{dual_values_exist}
use Rattle.right_report.proofs.laws.dual_values_exist.Goals as goal

pub returns : goal.returns
returns c = dual_values_exist
