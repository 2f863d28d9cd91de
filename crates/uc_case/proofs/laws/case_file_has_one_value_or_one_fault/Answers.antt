use Rattle.uc_case.proofs.Common.{sym, ap, ◌∙◌, reading_of, case_of}
use Rattle.uc_case.proofs.laws.case_file_has_one_value_or_one_fault.Goals as goal

pub returns : goal.returns
returns c = λ bytes r s a b. sym a.2 ∙ ap (reading_of case_of)
    (c.file_is_one_json_value_or_one_fault.ensures.one bytes a.0 b.0 a.1 b.1) ∙ b.2
