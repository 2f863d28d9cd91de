use Rattle.uc_model.proofs.Lemmas.{plan_costs_within}
use Rattle.uc_model.proofs.laws.plan_costs_are_within.Goals as goal

pub returns : goal.returns
returns c = plan_costs_within
