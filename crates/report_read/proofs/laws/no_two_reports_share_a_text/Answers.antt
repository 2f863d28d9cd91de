use Rattle.report_read.proofs.Lemmas.{has_form}
use Rattle.report_read.proofs.laws.no_two_reports_share_a_text.Goals as goal

pub returns : goal.returns
returns c = λ a b h k e. c.text_determines_the_report.ensures a b (has_form a h) (has_form b k) e
