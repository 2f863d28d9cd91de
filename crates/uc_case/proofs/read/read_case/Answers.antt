use Rattle.uc_case.proofs.Answered.{is_only}
use Rattle.uc_case.proofs.read.read_case.Goals as goal

pub returns-clause-only : goal.returns-clause-only
returns-clause-only c = λ r is. is_only c.case_file_has_one_value_or_one_fault.ensures c.args.bytes.now
    c.case_of_bytes.result
    c.case_of_bytes.ensures r is
