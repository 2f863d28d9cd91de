use Rattle.law_parts.proofs.CaseReading.{names_utf8}
use Rattle.law_parts.proofs.cases.case_names_are_utf8.Goals as goal

pub returns : goal.returns
returns c = names_utf8
