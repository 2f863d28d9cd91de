use Rattle.uc_model.proofs.Lemmas.{earnings_within}
use Rattle.uc_model.proofs.laws.earnings_are_within.Goals as goal

pub returns : goal.returns
returns c = earnings_within
