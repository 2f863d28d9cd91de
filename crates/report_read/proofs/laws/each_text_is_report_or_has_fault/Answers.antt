use Rattle.report_read.proofs.Lemmas.{report_or_fault}
use Rattle.report_read.proofs.laws.each_text_is_report_or_has_fault.Goals as goal

pub returns : goal.returns
returns c = report_or_fault
