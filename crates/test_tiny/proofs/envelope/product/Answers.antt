use Rattle.test_tiny.proofs.Common.{arith, to_z-of_z, w128}
use Rattle.test_tiny.proofs.Lemmas.{product_bound, product_fits}
use Rattle.test_tiny.proofs.envelope.product.Goals as goal

pub overflow_mul-result : goal.overflow_mul-result
overflow_mul-result c =
    let p = c.ranges.price in
    let q = c.ranges.kilowatts in
    simp to_z-of_z (product_fits w128 70368744177664 17179869184 c.args.price c.args.kilowatts c.requires.price
    c.requires.kilowatts (omega arith))

pub returns-clause-bound : goal.returns-clause-bound
returns-clause-bound c =
    let p = c.ranges.price in
    let q = c.ranges.kilowatts in
    let fits = product_fits w128 70368744177664 17179869184 c.args.price c.args.kilowatts c.requires.price
    c.requires.kilowatts (omega arith) in
    simp to_z-of_z (product_bound 70368744177664 17179869184 c.args.price c.args.kilowatts c.requires.price
    c.requires.kilowatts)

pub returns-clause-value : goal.returns-clause-value
returns-clause-value c =
    let p = c.ranges.price in
    let q = c.ranges.kilowatts in
    let fits = product_fits w128 70368744177664 17179869184 c.args.price c.args.kilowatts c.requires.price
    c.requires.kilowatts (omega arith) in
    simp to_z-of_z
