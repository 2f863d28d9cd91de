use Rattle.test_tiny.proofs.Common.{rules, arith, ◌≡◌, pos, neg_ℤ, ◌+ℤ◌, ints, to_z-of_z, w64, w128, FitsSigned, IsFrom}
use Rattle.test_tiny.proofs.Common.{line_at, fits_within}
use Rattle.test_tiny.proofs.envelope.line.Goals as goal

within : (c : goal.After-product) →
    IsFrom (neg_ℤ (pos 2417851639229258349412352)) (pos 2417851639229258349412352) (c.from.result +ℤ c.product.result)
within c =
    let a : FitsSigned w128 c.from.result = search rules in
    let q : FitsSigned w64 c.args.point.now.cost = search rules in
    let e = simp to_z-of_z at c.from.ensures in
    let b = c.product.ensures.bound in
    let l = c.requires.point.cost.at_least in
    let m = c.requires.point.cost.at_most in
    let bl = b.at_least in
    let bm = b.at_most in
    record { at_least = omega (arith, ints, e, l, bl); at_most = omega (arith, ints, e, m, bm) }

fits : (c : goal.After-product) → FitsSigned w128 (c.from.result +ℤ c.product.result)
fits c = fits_within w128 2417851639229258349412352 _ (within c) (omega arith)

value : (c : goal.After-product) →
    c.from.result +ℤ c.product.result ≡ line_at c.args.price (pos c.args.power) c.args.point.now
value c =
    let a : FitsSigned w128 c.from.result = search rules in
    let b : FitsSigned w128 c.product.result = search rules in
    let d : FitsSigned w128 c.kilowatts_above.result = search rules in
    let p = c.ranges.price in
    let q : FitsSigned w64 c.args.point.now.cost = search rules in
    let e = simp to_z-of_z at c.from.ensures in
    let v = simp to_z-of_z at c.product.ensures.value in
    let w = c.kilowatts_above.ensures.value in
    rw (e, v, w)

pub returns-clause-value : goal.returns-clause-value
returns-clause-value c =
    let a : FitsSigned w128 c.from.result = search rules in
    let b : FitsSigned w128 c.product.result = search rules in
    let f = fits c in
    simp to_z-of_z (value c)

pub returns-clause-bound : goal.returns-clause-bound
returns-clause-bound c =
    let a : FitsSigned w128 c.from.result = search rules in
    let b : FitsSigned w128 c.product.result = search rules in
    let f = fits c in
    simp to_z-of_z (within c)
