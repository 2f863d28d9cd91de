use Rattle.plan_check.proofs.PlanLaws as plans
use Rattle.plan_check.proofs.laws.feasible_exactly_without_broken_rule.Goals as goal

pub returns : goal.returns
returns c = plans.refusals_are_exact
