use Rattle.report_form.proofs.ReadConvex.{search_determined}
use Rattle.report_form.proofs.laws.text_determines_the_convex_report.Goals as goal

pub returns : goal.returns
returns c = search_determined
