use Rattle.uc_model.proofs.Lemmas.{dual_values_within}
use Rattle.uc_model.proofs.laws.dual_values_are_within.Goals as goal

pub returns : goal.returns
returns c = dual_values_within
