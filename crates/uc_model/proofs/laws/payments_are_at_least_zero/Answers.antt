use Rattle.uc_model.proofs.Lemmas.{nothing_paid_back}
use Rattle.uc_model.proofs.laws.payments_are_at_least_zero.Goals as goal

pub returns : goal.returns
returns c = nothing_paid_back
