use Rattle.report_read.proofs.Lemmas.{one_fault}
use Rattle.report_read.proofs.laws.at_most_one_line_is_in_fault.Goals as goal

pub returns : goal.returns
returns c = one_fault
