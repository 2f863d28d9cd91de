use Rattle.report_form.proofs.ReadReport.{text_determines}
use Rattle.report_form.proofs.laws.text_determines_the_report.Goals as goal

pub returns : goal.returns
returns c = text_determines
