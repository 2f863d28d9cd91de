use Rattle.ramp_step.proofs.Common.{arith, ◌*ℤ◌, FitsSigned, w64, ints, to_z-of_z}
use Rattle.ramp_step.proofs.splitting.along.Goals as goal

pub overflow_mul-result : goal.overflow_mul-result
overflow_mul-result c =
    grind (arith, to_z-of_z)

pub overflow_add-result : goal.overflow_add-result
overflow_add-result c =
    let f : FitsSigned w64 (c.args.slope *ℤ c.args.x) = omega (arith, ints) in
    grind (arith, to_z-of_z)

pub returns : goal.returns
returns c =
    let f : FitsSigned w64 (c.args.slope *ℤ c.args.x) = omega (arith, ints) in
    grind (arith, to_z-of_z)
