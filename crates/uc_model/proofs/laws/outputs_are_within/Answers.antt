use Rattle.uc_model.proofs.Lemmas.{outputs_within}
use Rattle.uc_model.proofs.laws.outputs_are_within.Goals as goal

pub returns : goal.returns
returns c = outputs_within
