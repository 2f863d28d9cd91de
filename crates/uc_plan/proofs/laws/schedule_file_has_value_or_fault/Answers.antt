use Rattle.uc_plan.proofs.Common.{refl, reading_of, plan_of}
use Rattle.uc_plan.proofs.laws.schedule_file_has_value_or_fault.Goals as goal

pub returns : goal.returns
returns c = λ m bytes. let found = c.file_is_one_json_value_or_one_fault.ensures.some bytes in
    (reading_of (plan_of m) found.0, (found.0, found.1, refl))
