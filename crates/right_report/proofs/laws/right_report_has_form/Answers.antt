use Rattle.right_report.proofs.RightForm.{right_has_form}
use Rattle.right_report.proofs.laws.right_report_has_form.Goals as goal

pub returns : goal.returns
returns c = right_has_form
