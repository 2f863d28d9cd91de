use Rattle.hull_command.proofs.prepare.generated_case_and_schedule.Goals as goal

pub cost_of_plan-cost-requires-clause-shape : goal.cost_of_plan-cost-requires-clause-shape
cost_of_plan-cost-requires-clause-shape c = c.feasible_plans_have_shape.ensures _ _ c.in_ok-case.ensures.feasible
