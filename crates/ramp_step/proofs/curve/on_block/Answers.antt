use Rattle.ramp_step.proofs.Common.{◌≡◌, arith, to_z, of_z, ◌-ℤ◌, w64, ints, to_z-of_z}
use Rattle.ramp_step.proofs.curve.on_block.Goals as goal

pub along-line-requires-clause-after : goal.along-line-requires-clause-after
along-line-requires-clause-after c =
    let e-way : to_z w64 (of_z w64 (to_z w64 (of_z w64 c.args.knot.at) -ℤ to_z w64 (of_z w64 c.args.start)))
    ≡ c.args.knot.at -ℤ c.args.start = omega (arith, ints) in
    rw (to_z-of_z w64 c.args.level c.ranges.level, to_z-of_z w64 c.args.price c.ranges.price, e-way)
    c.requires.fits.line

pub overflow_add-result : goal.overflow_add-result
overflow_add-result c =
    let e-way : to_z w64 (of_z w64 (to_z w64 (of_z w64 c.args.knot.at) -ℤ to_z w64 (of_z w64 c.args.start)))
    ≡ c.args.knot.at -ℤ c.args.start = omega (arith, ints) in
    let is = rw (to_z-of_z w64 c.args.level c.ranges.level, to_z-of_z w64 c.args.price c.ranges.price, e-way) at
    c.along-line.ensures in
    omega (arith, ints)

pub returns-clause-value : goal.returns-clause-value
returns-clause-value c =
    let e-way : to_z w64 (of_z w64 (to_z w64 (of_z w64 c.args.knot.at) -ℤ to_z w64 (of_z w64 c.args.start)))
    ≡ c.args.knot.at -ℤ c.args.start = omega (arith, ints) in
    let is = rw (to_z-of_z w64 c.args.level c.ranges.level, to_z-of_z w64 c.args.price c.ranges.price, e-way) at
    c.along-line.ensures in
    omega (arith, ints)
