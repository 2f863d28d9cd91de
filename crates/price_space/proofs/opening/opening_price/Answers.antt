use Rattle.price_space.proofs.Common.{rules, ℤ, neg_ℤ, FitsSigned, ap, ◌∙◌, to_z-of_z, w64, w128, price_limit, clamped}
use Rattle.price_space.proofs.Common.{opened}
use Rattle.price_space.proofs.opening.opening_price.Goals as goal

pub returns : goal.returns
unfolding opened
returns c =
    let s = c.ranges.start in
    let a : FitsSigned w64 c.clamp_to_price_limit.result = search rules in
    let b : FitsSigned w128 c.share_of_start_price.result = search rules in
    let near = simp to_z-of_z at c.clamp_to_price_limit.ensures.value in
    let share = simp to_z-of_z at c.share_of_start_price.ensures in
    simp to_z-of_z (near ∙ ap (λ (z : ℤ). clamped (neg_ℤ price_limit) price_limit z) share)
