use Rattle.uc_model.proofs.Lemmas.{totals_within}
use Rattle.uc_model.proofs.laws.power_and_reserve_totals_are_within.Goals as goal

pub returns : goal.returns
returns c = totals_within
