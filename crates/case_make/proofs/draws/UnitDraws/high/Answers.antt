use Rattle.case_make.proofs.Common.{arith}
use Rattle.case_make.proofs.Lemmas.{has_range}
use Rattle.case_make.proofs.draws.UnitDraws.high.Goals as goal

pub overflow_add-result : goal.overflow_add-result
overflow_add-result c = omega (arith, has_range c.args.self.now c.requires)
