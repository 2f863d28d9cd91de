use Rattle.right_report.proofs.Lemmas.{report_payments}
use Rattle.right_report.proofs.laws.report_payments_make_up_the_gap.Goals as goal

pub returns : goal.returns
returns c = report_payments c.payments_make_up_the_gap.ensures
