use Rattle.level_table.proofs.Common.{arith, ◌+ℤ◌, ◌*ℤ◌, FitsSigned, w64, ints, to_z-of_z}
use Rattle.level_table.proofs.along.Goals as goal

pub returns : goal.returns
returns c =
    let f : FitsSigned w64 (c.args.slope *ℤ c.args.x) = omega (arith, ints) in
    let g : FitsSigned w64 (c.args.value +ℤ c.args.slope *ℤ c.args.x) = omega (arith, ints) in
    grind (arith, to_z-of_z)
