use Rattle.uc_model.proofs.Lemmas.{power_costs_within}
use Rattle.uc_model.proofs.laws.power_costs_are_within.Goals as goal

pub returns : goal.returns
returns c = power_costs_within
