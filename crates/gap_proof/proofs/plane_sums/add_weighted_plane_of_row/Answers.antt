use Rattle.gap_proof.proofs.Common.{rules, ℤ, ◌+ℤ◌, ◌*ℤ◌, ap, ◌∙◌, arith, FitsSigned, to_z-of_z, w128, sum_within}
use Rattle.gap_proof.proofs.Common.{fits_within}
use Rattle.gap_proof.proofs.plane_sums.add_weighted_plane_of_row.Goals as goal

pub overflow_add-result : goal.overflow_add-result
overflow_add-result c =
    let w = c.ranges.weight in
    let a : FitsSigned w128 c.args.sums.height = search rules in
    let b : FitsSigned w128 c.plane_height_at_zero_prices.result = search rules in
    let d : FitsSigned w128 c.weighted_plane_height.result = search rules in
    let within = sum_within 30000000000000000000000000000000000 2000000000000000000000000000000 c.args.sums.height
    c.weighted_plane_height.result c.requires.heights c.weighted_plane_height.ensures.bound in
    let fits = fits_within w128 30002000000000000000000000000000000
    (c.args.sums.height +ℤ c.weighted_plane_height.result)
    within
    (omega arith) in
    simp to_z-of_z fits

pub returns-clause-height : goal.returns-clause-height
returns-clause-height c =
    let w = c.ranges.weight in
    let a : FitsSigned w128 c.args.sums.height = search rules in
    let b : FitsSigned w128 c.plane_height_at_zero_prices.result = search rules in
    let d : FitsSigned w128 c.weighted_plane_height.result = search rules in
    let within = sum_within 30000000000000000000000000000000000 2000000000000000000000000000000 c.args.sums.height
    c.weighted_plane_height.result c.requires.heights c.weighted_plane_height.ensures.bound in
    let fits = fits_within w128 30002000000000000000000000000000000
    (c.args.sums.height +ℤ c.weighted_plane_height.result)
    within
    (omega arith) in
    let value = simp to_z-of_z at c.weighted_plane_height.ensures.value in
    simp to_z-of_z (ap (λ (z : ℤ). c.args.sums.height +ℤ z)
    (value ∙ ap (λ (z : ℤ). c.args.weight *ℤ z) c.plane_height_at_zero_prices.ensures.value))

pub returns-clause-slopes : goal.returns-clause-slopes
returns-clause-slopes c =
    let w = c.ranges.weight in
    simp to_z-of_z at c.add_weighted_slopes_of_row.ensures.added
