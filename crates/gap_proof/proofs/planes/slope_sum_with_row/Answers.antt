use Rattle.gap_proof.proofs.Common.{rules, ◌≡◌, ℤ, ◌+ℤ◌, ◌*ℤ◌, ap, sym, subst, arith, FitsSigned, to_z-of_z, w128}
use Rattle.gap_proof.proofs.Common.{IsWithin, fits_within, sum_within}
use Rattle.gap_proof.proofs.Lemmas.{signed_product_within, within_both}
use Rattle.gap_proof.proofs.planes.slope_sum_with_row.Goals as goal

product_is : (c : goal.After-wide_product) → c.wide_product.result ≡ c.args.weight *ℤ c.args.slope
product_is c =
    let p = c.ranges.weight in
    let q = c.ranges.slope in
    simp to_z-of_z at c.wide_product.ensures

fits : (c : goal.After-wide_product) → FitsSigned w128 (c.args.sum +ℤ c.wide_product.result)
fits c =
    let product = subst (IsWithin 20000000000000000000) (sym (product_is c))
    (signed_product_within 1000000 20000000000000 c.args.weight c.args.slope
    (within_both 1000000 c.args.weight c.requires.weight) c.requires.slope) in
    fits_within w128 1000020000000000000000000 (c.args.sum +ℤ c.wide_product.result)
    (sum_within 1000000000000000000000000 20000000000000000000 c.args.sum c.wide_product.result c.requires.sum product)
    (omega arith)

pub overflow_add-result : goal.overflow_add-result
overflow_add-result c =
    let s = fits_within w128 1000000000000000000000000 c.args.sum c.requires.sum (omega arith) in
    let t : FitsSigned w128 c.wide_product.result = search rules in
    simp to_z-of_z (fits c)

pub returns : goal.returns
returns c =
    let s = fits_within w128 1000000000000000000000000 c.args.sum c.requires.sum (omega arith) in
    let t : FitsSigned w128 c.wide_product.result = search rules in
    let f = fits c in
    simp to_z-of_z (ap (λ (z : ℤ). c.args.sum +ℤ z) (product_is c))
