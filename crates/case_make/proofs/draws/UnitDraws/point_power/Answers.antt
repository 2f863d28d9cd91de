use Rattle.case_make.proofs.Common.{◌-◌, arith, mul-le}
use Rattle.case_make.proofs.Lemmas.{max_range, min_range}
use Rattle.case_make.proofs.draws.UnitDraws.point_power.Goals as goal

pub overflow_sub-result : goal.overflow_sub-result
overflow_sub-result c = omega (arith, min_range c.args.self.now c.requires.draws)

pub overflow_mul-result : goal.overflow_mul-result
overflow_mul-result c =
    let top = max_range c.args.self.now c.requires.draws in
    let p = mul-le (c.max_power.result - c.min_power-min.result) c.args.index 400000 3 (omega (arith, top))
    (omega arith) in
    omega (arith, p)
