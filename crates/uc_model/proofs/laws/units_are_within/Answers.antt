use Rattle.uc_model.proofs.Lemmas.{units_within}
use Rattle.uc_model.proofs.laws.units_are_within.Goals as goal

pub returns : goal.returns
returns c = units_within
