use Rattle.cost_curve.proofs.Common.{pos, ◌-ℤ◌, List, ap, ◌∙◌, w64, FitsSigned, arith, ints, to_z-of_z, Block, extended}
use Rattle.cost_curve.proofs.Common.{fits64}
use Rattle.cost_curve.proofs.curves.push_blocks_between_points.Goals as goal

pub returns-clause-items : goal.returns-clause-items
returns-clause-items c =
    let from = c.args.from.now in
    let to = c.args.to.now in
    let slope = c.args.slope in
    let a = c.requires.from_limits.at.at_least in
    let b = c.requires.from_limits.at.at_most in
    let d = c.requires.to_limits.at.at_least in
    let e = c.requires.to_limits.at.at_most in
    let g = slope.price_limit.at_least in
    let h = slope.price_limit.at_most in
    let i = slope.width_limit.at_least in
    let j = slope.width_limit.at_most in
    let f1 : FitsSigned w64 c.args.from.now.at =
    fits64 c.args.from.now.at (omega (arith, ints, a)) (omega (arith, ints, b)) in
    let f2 : FitsSigned w64 c.args.to.now.at =
    fits64 c.args.to.now.at (omega (arith, ints, d)) (omega (arith, ints, e)) in
    let f3 : FitsSigned w64 (c.args.to.now.at -ℤ c.args.from.now.at) =
    fits64 (c.args.to.now.at -ℤ c.args.from.now.at) (omega (arith, ints, b, d)) (omega (arith, ints, a, e)) in
    let f4 : FitsSigned w64 c.args.slope.width =
    fits64 c.args.slope.width (omega (arith, ints, i)) (omega (arith, ints, j)) in
    let f5 : FitsSigned w64 c.args.slope.price =
    fits64 c.args.slope.price (omega (arith, ints, g)) (omega (arith, ints, h)) in
    let f6 : FitsSigned w64 (c.args.slope.price -ℤ pos 1) =
    fits64 (c.args.slope.price -ℤ pos 1) (omega (arith, ints, g)) (omega (arith, ints, h)) in
    let f7 : FitsSigned w64 ((c.args.to.now.at -ℤ c.args.from.now.at) -ℤ c.args.slope.width) =
    fits64 ((c.args.to.now.at -ℤ c.args.from.now.at) -ℤ c.args.slope.width) (omega (arith, ints, b, d, j))
    (omega (arith, ints, a, e, i)) in
    let e1 = simp to_z-of_z at c.push_block.ensures.items in
    let e2 = simp to_z-of_z at c.push_block-2.ensures.items in
    e2 ∙ ap (λ (bs : List Block). extended bs
    (record { width = (c.args.to.now.at -ℤ c.args.from.now.at) -ℤ c.args.slope.width; price = c.args.slope.price }))
    e1
