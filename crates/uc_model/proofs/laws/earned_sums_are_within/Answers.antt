use Rattle.uc_model.proofs.Lemmas.{earned_sums_within}
use Rattle.uc_model.proofs.laws.earned_sums_are_within.Goals as goal

pub returns : goal.returns
returns c = earned_sums_within
