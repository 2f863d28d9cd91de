use Rattle.case_make.proofs.Common.{arith, mul-le}
use Rattle.case_make.proofs.Lemmas.{max_range}
use Rattle.case_make.proofs.draws.UnitDraws.min_power.Goals as goal

pub overflow_mul-result : goal.overflow_mul-result
overflow_mul-result c =
    let top = max_range c.args.self.now c.requires in
    let p = mul-le c.max_power.result c.args.self.now.least_percent 400000 50 (omega (arith, top)) (omega arith) in
    omega (arith, p)
