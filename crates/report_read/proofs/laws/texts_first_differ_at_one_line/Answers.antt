use Rattle.report_read.proofs.Lemmas.{one_difference}
use Rattle.report_read.proofs.laws.texts_first_differ_at_one_line.Goals as goal

pub returns : goal.returns
returns c = one_difference
