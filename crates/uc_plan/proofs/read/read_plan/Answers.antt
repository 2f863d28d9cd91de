use Rattle.uc_plan.proofs.Common.{market_of}
use Rattle.uc_plan.proofs.Answered.{is_only}
use Rattle.uc_plan.proofs.read.read_plan.Goals as goal

pub returns-clause-only : goal.returns-clause-only
returns-clause-only c = λ r is. is_only c.schedule_file_has_one_value_or_one_fault.ensures (market_of c.args.case.now)
    c.args.bytes.now
    c.plan_of_bytes.result c.plan_of_bytes.ensures.answer r is
