use Rattle.ramp_step.proofs.Common.{arith, ◌*ℤ◌, FitsSigned, w64, ints, to_z-of_z}
use Rattle.ramp_step.proofs.line.on_line.Goals as goal

pub overflow_mul-result : goal.overflow_mul-result
overflow_mul-result c =
    grind (arith, to_z-of_z)

pub overflow_add-result : goal.overflow_add-result
overflow_add-result c =
    let f : FitsSigned w64 (c.args.slope *ℤ c.args.knot.at) = omega (arith, ints) in
    grind (arith, to_z-of_z)

pub returns-clause-value : goal.returns-clause-value
returns-clause-value c =
    let f : FitsSigned w64 (c.args.slope *ℤ c.args.knot.at) = omega (arith, ints) in
    grind (arith, to_z-of_z)
