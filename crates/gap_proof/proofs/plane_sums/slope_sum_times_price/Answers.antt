use Rattle.gap_proof.proofs.Common.{rules, ℤ, ◌*ℤ◌, ap, arith, FitsSigned, to_z-of_z, w128, fits_within, IsWithin}
use Rattle.gap_proof.proofs.Lemmas.{signed_product_within}
use Rattle.gap_proof.proofs.plane_sums.slope_sum_times_price.Goals as goal

pub overflow_mul-result : goal.overflow_mul-result
overflow_mul-result c =
    let p = c.ranges.slope in
    let q = c.ranges.price in
    let a : FitsSigned w128 c.from.result = search rules in
    let e = simp to_z-of_z at c.from.ensures in
    let within : IsWithin 10000000000000000000000000000000 (c.args.slope *ℤ c.from.result) =
    rw e (signed_product_within 1000000000000000000000000 10000000 c.args.slope c.args.price c.requires.slope
    c.requires.price) in
    let fits = fits_within w128 10000000000000000000000000000000 (c.args.slope *ℤ c.from.result) within (omega arith) in
    simp to_z-of_z fits

pub returns-clause-bound : goal.returns-clause-bound
returns-clause-bound c =
    let p = c.ranges.slope in
    let q = c.ranges.price in
    let a : FitsSigned w128 c.from.result = search rules in
    let e = simp to_z-of_z at c.from.ensures in
    let within : IsWithin 10000000000000000000000000000000 (c.args.slope *ℤ c.from.result) =
    rw e (signed_product_within 1000000000000000000000000 10000000 c.args.slope c.args.price c.requires.slope
    c.requires.price) in
    let fits = fits_within w128 10000000000000000000000000000000 (c.args.slope *ℤ c.from.result) within (omega arith) in
    simp to_z-of_z within

pub returns-clause-value : goal.returns-clause-value
returns-clause-value c =
    let p = c.ranges.slope in
    let q = c.ranges.price in
    let a : FitsSigned w128 c.from.result = search rules in
    let e = simp to_z-of_z at c.from.ensures in
    let within : IsWithin 10000000000000000000000000000000 (c.args.slope *ℤ c.from.result) =
    rw e (signed_product_within 1000000000000000000000000 10000000 c.args.slope c.args.price c.requires.slope
    c.requires.price) in
    let fits = fits_within w128 10000000000000000000000000000000 (c.args.slope *ℤ c.from.result) within (omega arith) in
    simp to_z-of_z (ap (λ (z : ℤ). c.args.slope *ℤ z) e)
