use Rattle.price_settle.proofs.Settlements.{adds_up}
use Rattle.price_settle.proofs.laws.payments_and_surplus_make_the_gap.Goals as goal

pub returns : goal.returns
returns c = adds_up c.payments_make_up_the_gap.ensures c.payments_are_at_least_zero.ensures
