use Rattle.uc_model.proofs.Lemmas.{start_costs_within}
use Rattle.uc_model.proofs.laws.start_costs_are_within.Goals as goal

pub returns : goal.returns
returns c = start_costs_within
