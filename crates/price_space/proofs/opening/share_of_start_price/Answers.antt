use Rattle.price_space.proofs.Common.{rules, ◌≤◌, ℤ, pos, ◌*ℤ◌, unsigned_abs, FitsSigned, ap, ◌∙◌, arith, to_z-of_z}
use Rattle.price_space.proofs.Common.{fits_signed_mul, w128, int_div_euclid}
use Rattle.price_space.proofs.Lemmas.{magnitude}
use Rattle.price_space.proofs.opening.share_of_start_price.Goals as goal

pub returns : goal.returns
returns c =
    let a = c.ranges.start in
    let few = c.requires in
    let from_is = simp to_z-of_z at c.from.ensures in
    let times = c.from-2.ensures in
    let d : FitsSigned w128 c.from.result = search rules in
    let f : FitsSigned w128 c.from-2.result = search rules in
    let g : FitsSigned w128 c.div_euclid.result = search rules in
    let left : unsigned_abs c.from.result ≤ 9223372036854775808 =
    omega (arith, ap unsigned_abs from_is, magnitude c.args.start a) in
    let right : unsigned_abs c.from-2.result ≤ 23 = omega (arith, ap unsigned_abs times, few) in
    let product = fits_signed_mul w128 c.from.result c.from-2.result 9223372036854775808 23 left right (omega arith) in
    let e = simp to_z-of_z at c.div_euclid.ensures in
    simp to_z-of_z (e
    ∙ ap (λ (z : ℤ). int_div_euclid (z *ℤ c.from-2.result) (pos 8)) from_is
    ∙ ap (λ (z : ℤ). int_div_euclid (c.args.start *ℤ z) (pos 8)) times)

pub overflow_mul-from : goal.overflow_mul-from
overflow_mul-from c =
    let a = c.ranges.start in
    let few = c.requires in
    let from_is = simp to_z-of_z at c.from.ensures in
    let d : FitsSigned w128 c.from.result = search rules in
    let f : FitsSigned w128 c.from-2.result = search rules in
    let left : unsigned_abs c.from.result ≤ 9223372036854775808 =
    omega (arith, ap unsigned_abs from_is, magnitude c.args.start a) in
    let right : unsigned_abs c.from-2.result ≤ 23 = omega (arith, ap unsigned_abs c.from-2.ensures, few) in
    let product = fits_signed_mul w128 c.from.result c.from-2.result 9223372036854775808 23 left right (omega arith) in
    simp to_z-of_z product
