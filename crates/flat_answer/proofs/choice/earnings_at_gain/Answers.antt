use Rattle.flat_answer.proofs.Common.{◌*ℤ◌, arith, to_z-of_z, w64, product_within, fits_within, refl}
use Rattle.flat_answer.proofs.choice.earnings_at_gain.Goals as goal

pub overflow_mul-result : goal.overflow_mul-result
overflow_mul-result c =
    let a = c.ranges.gain in
    let b = c.ranges.power in
    let within = product_within 20000000 1000000000 c.args.gain c.args.power c.requires.gain c.requires.power in
    simp to_z-of_z (fits_within w64 20000000000000000 (c.args.gain *ℤ c.args.power) within (omega arith))

pub returns-clause-value : goal.returns-clause-value
returns-clause-value c =
    let a = c.ranges.gain in
    let b = c.ranges.power in
    let within = product_within 20000000 1000000000 c.args.gain c.args.power c.requires.gain c.requires.power in
    let fits = fits_within w64 20000000000000000 (c.args.gain *ℤ c.args.power) within (omega arith) in
    simp to_z-of_z refl

pub returns-clause-bound : goal.returns-clause-bound
returns-clause-bound c =
    let a = c.ranges.gain in
    let b = c.ranges.power in
    let within = product_within 20000000 1000000000 c.args.gain c.args.power c.requires.gain c.requires.power in
    let fits = fits_within w64 20000000000000000 (c.args.gain *ℤ c.args.power) within (omega arith) in
    simp to_z-of_z within
