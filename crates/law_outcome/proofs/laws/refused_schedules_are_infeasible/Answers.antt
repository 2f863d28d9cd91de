use Rattle.law_outcome.proofs.NoSchedule.{refused_at_4}
use Rattle.law_outcome.proofs.laws.refused_schedules_are_infeasible.Goals as goal

pub returns : goal.returns
returns g c words old new before after n h z =
    refused_at_4 c.case_file_has_one_value_or_one_fault.ensures c.cases_are_within.ensures
    c.schedule_file_has_one_value_or_one_fault.ensures c.feasible_exactly_without_broken_rule.ensures
    c.feasible_plans_have_shape.ensures words _ _ _ _ n h.reads h.end h.are_reads h.ends h.status_is z
