use Rattle.case_make.proofs.Common.{arith}
use Rattle.case_make.proofs.Lemmas.{cost_range}
use Rattle.case_make.proofs.units.cost_point.Goals as goal

pub money_of_amount-requires : goal.money_of_amount-requires
money_of_amount-requires c = omega (arith, cost_range c.args.draws.now c.args.index c.requires.draws c.requires.index)
