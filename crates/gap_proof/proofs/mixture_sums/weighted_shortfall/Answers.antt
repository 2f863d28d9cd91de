use Rattle.gap_proof.proofs.Common.{rules, ◌≡◌, ℤ, ◌-ℤ◌, ◌*ℤ◌, ap, FitsSigned, arith, ints, to_z-of_z, w128}
use Rattle.gap_proof.proofs.Common.{IsWithin, product_within, fits_within}
use Rattle.gap_proof.proofs.mixture_sums.weighted_shortfall.Goals as goal

lacks : (c : goal.After-wide_product) → IsWithin 17700000000000000000000000 (c.wide_product.result -ℤ c.args.given)
lacks c =
    let qw = c.ranges.weight in
    let qr = c.ranges.required in
    let e : c.wide_product.result ≡ c.args.weight *ℤ c.args.required = simp to_z-of_z at c.wide_product.ensures in
    let wl = c.requires.weight.at_least in
    let wh = c.requires.weight.at_most in
    let few : IsWithin 1000000000000 c.args.weight = record { at_least = omega (arith, ints, wl); at_most = wh } in
    let product = product_within 1000000000000 1000000000 c.args.weight c.args.required few c.requires.required in
    let p = product.at_least in
    let q = product.at_most in
    let a = c.requires.given.at_least in
    let b = c.requires.given.at_most in
    record { at_least = omega (arith, ints, e, p, b); at_most = omega (arith, ints, e, q, a) }

fits : (c : goal.After-wide_product) → FitsSigned w128 (c.wide_product.result -ℤ c.args.given)
fits c = fits_within w128 17700000000000000000000000 (c.wide_product.result -ℤ c.args.given) (lacks c) (omega arith)

pub overflow_sub-result : goal.overflow_sub-result
overflow_sub-result c =
    let qg = c.ranges.given in
    let f : FitsSigned w128 c.wide_product.result = search rules in
    simp to_z-of_z (fits c)

pub returns-clause-value : goal.returns-clause-value
returns-clause-value c =
    let qw = c.ranges.weight in
    let qr = c.ranges.required in
    let qg = c.ranges.given in
    let f : FitsSigned w128 c.wide_product.result = search rules in
    let e : c.wide_product.result ≡ c.args.weight *ℤ c.args.required = simp to_z-of_z at c.wide_product.ensures in
    let whole = fits c in
    simp to_z-of_z (ap (λ (z : ℤ). z -ℤ c.args.given) e)

pub returns-clause-limit : goal.returns-clause-limit
returns-clause-limit c =
    let qg = c.ranges.given in
    let f : FitsSigned w128 c.wide_product.result = search rules in
    let whole = fits c in
    simp to_z-of_z (lacks c)
