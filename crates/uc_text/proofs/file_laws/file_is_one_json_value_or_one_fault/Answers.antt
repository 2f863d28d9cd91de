use Rattle.uc_text.proofs.FileLaws.{some_file, one_file}
use Rattle.uc_text.proofs.file_laws.file_is_one_json_value_or_one_fault.Goals as goal

pub returns-clause-some : goal.returns-clause-some
returns-clause-some c = some_file c.bytes_are_json_text_or_have_fault.ensures

pub returns-clause-one : goal.returns-clause-one
returns-clause-one c = one_file c.json_text_has_one_value.ensures c.json_text_has_no_fault.ensures
    c.bad_json_text_has_one_first_fault.ensures
