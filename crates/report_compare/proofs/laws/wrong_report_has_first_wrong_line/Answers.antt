use Rattle.report_compare.proofs.Lemmas.{some_difference}
use Rattle.report_compare.proofs.laws.wrong_report_has_first_wrong_line.Goals as goal

pub returns : goal.returns
returns c = some_difference c.text_determines_the_report.ensures c.right_report_has_form.ensures
    c.right_reports_exist.ensures
