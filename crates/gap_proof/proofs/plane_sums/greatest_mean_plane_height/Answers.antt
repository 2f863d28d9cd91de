use Rattle.gap_proof.proofs.Common.{rules, ℤ, ◌+ℤ◌, unsigned_abs, ap, ◌∙◌, arith, FitsSigned, to_z-of_z, w64, w128}
use Rattle.gap_proof.proofs.Common.{floor_div, sum_within, fits_within}
use Rattle.gap_proof.proofs.plane_sums.greatest_mean_plane_height.Goals as goal

pub returns-clause-value : goal.returns-clause-value
returns-clause-value c =
    let rq = c.ranges.radius in
    let a : FitsSigned w128 c.args.sums.height = search rules in
    let b : FitsSigned w64 c.args.sums.weight = search rules in
    let d : FitsSigned w128 c.sum_of_greatest_slope_terms.result = search rules in
    let f : FitsSigned w128 c.floor_quotient.result = search rules in
    let within = sum_within 30000000000000000000000000000000000 4000000000000000000000000000000000 c.args.sums.height
    c.sum_of_greatest_slope_terms.result c.requires.heights c.sum_of_greatest_slope_terms.ensures.bound in
    let fits = fits_within w128 34000000000000000000000000000000000
    (c.args.sums.height +ℤ c.sum_of_greatest_slope_terms.result)
    within
    (omega arith) in
    let value = simp to_z-of_z at c.sum_of_greatest_slope_terms.ensures.value in
    let e = simp to_z-of_z at c.floor_quotient.ensures.value in
    simp to_z-of_z (e ∙ ap (λ (z : ℤ). floor_div (c.args.sums.height +ℤ z) (unsigned_abs c.args.sums.weight)) value)

pub returns-clause-limits : goal.returns-clause-limits
returns-clause-limits c =
    let a : FitsSigned w128 c.args.sums.height = search rules in
    let d : FitsSigned w128 c.sum_of_greatest_slope_terms.result = search rules in
    let f : FitsSigned w128 c.floor_quotient.result = search rules in
    let within = sum_within 30000000000000000000000000000000000 4000000000000000000000000000000000 c.args.sums.height
    c.sum_of_greatest_slope_terms.result c.requires.heights c.sum_of_greatest_slope_terms.ensures.bound in
    let fits = fits_within w128 34000000000000000000000000000000000
    (c.args.sums.height +ℤ c.sum_of_greatest_slope_terms.result)
    within
    (omega arith) in
    simp to_z-of_z (c.floor_quotient.ensures.limit 34000000000000000000000000000000000 (simp to_z-of_z within))
