use Rattle.case_make.proofs.Common.{arith}
use Rattle.case_make.proofs.Lemmas.{has_range}
use Rattle.case_make.proofs.draws.UnitDraws.step.Goals as goal

pub overflow_sub-above : goal.overflow_sub-above
overflow_sub-above c = omega (arith, has_range c.args.self.now c.requires)
