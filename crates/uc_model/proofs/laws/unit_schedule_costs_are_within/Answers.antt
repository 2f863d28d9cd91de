use Rattle.uc_model.proofs.Lemmas.{costs_within}
use Rattle.uc_model.proofs.laws.unit_schedule_costs_are_within.Goals as goal

pub returns : goal.returns
returns c = costs_within
