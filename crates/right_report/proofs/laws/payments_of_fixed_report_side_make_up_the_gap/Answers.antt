use Rattle.right_report.proofs.Lemmas.{made_up}
use Rattle.right_report.proofs.laws.payments_of_fixed_report_side_make_up_the_gap.Goals as goal

pub returns : goal.returns
returns c = made_up c.payments_make_up_the_gap.ensures
