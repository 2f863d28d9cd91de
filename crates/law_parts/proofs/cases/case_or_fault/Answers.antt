use Rattle.law_parts.proofs.ReaderNames.{refl, reading_of, case_of}
use Rattle.law_parts.proofs.cases.case_or_fault.Goals as goal

pub returns : goal.returns
returns c = λ bytes. let found = c.file_is_one_json_value_or_one_fault.ensures.some bytes in
    (reading_of case_of found.0, (found.0, found.1, refl))
