use Rattle.right_report.proofs.ReportsExist.{right_reports_exist}
use Rattle.right_report.proofs.laws.right_reports_exist.Goals as goal

pub returns : goal.returns
returns c = right_reports_exist c.runs_exist.ensures c.one_row_is_chosen.ensures
