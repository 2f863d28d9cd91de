use Rattle.uc_model.proofs.Lemmas.{demand_worth_within}
use Rattle.uc_model.proofs.laws.demand_worth_is_within.Goals as goal

pub returns : goal.returns
returns c = demand_worth_within
