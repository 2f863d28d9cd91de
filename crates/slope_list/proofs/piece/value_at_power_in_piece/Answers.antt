use Rattle.slope_list.proofs.Common.{arith, ◌+ℤ◌, ◌-ℤ◌, ◌*ℤ◌, FitsSigned, w64, ints, to_z-of_z}
use Rattle.slope_list.proofs.piece.value_at_power_in_piece.Goals as goal

pub overflow_mul-result : goal.overflow_mul-result
overflow_mul-result c =
    let d : FitsSigned w64 (c.args.to -ℤ c.args.from) = omega (arith, ints) in
    let f : FitsSigned w64 (c.args.piece.slope *ℤ (c.args.to -ℤ c.args.from)) = omega (arith, ints) in
    grind (arith, to_z-of_z)

pub overflow_add-result : goal.overflow_add-result
overflow_add-result c =
    let d : FitsSigned w64 (c.args.to -ℤ c.args.from) = omega (arith, ints) in
    let f : FitsSigned w64 (c.args.piece.slope *ℤ (c.args.to -ℤ c.args.from)) = omega (arith, ints) in
    let g : FitsSigned w64 (c.args.level +ℤ c.args.piece.slope *ℤ (c.args.to -ℤ c.args.from)) = omega (arith, ints) in
    grind (arith, to_z-of_z)

pub returns : goal.returns
returns c =
    let d : FitsSigned w64 (c.args.to -ℤ c.args.from) = omega (arith, ints) in
    let f : FitsSigned w64 (c.args.piece.slope *ℤ (c.args.to -ℤ c.args.from)) = omega (arith, ints) in
    let g : FitsSigned w64 (c.args.level +ℤ c.args.piece.slope *ℤ (c.args.to -ℤ c.args.from)) = omega (arith, ints) in
    grind (arith, to_z-of_z)
