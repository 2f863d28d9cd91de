use Rattle.gap_proof.proofs.Common.{rules, ◌≡◌, ℤ, pos, ◌-ℤ◌, ◌*ℤ◌, ap, FitsSigned, arith, ints, clamps, to_z-of_z}
use Rattle.gap_proof.proofs.Common.{int_max, w64, IsWithin, IsFrom, product_within, fits_within}
use Rattle.gap_proof.proofs.MixtureSumLaws.{times_power}
use Rattle.gap_proof.proofs.flat.best_earnings_of_block.Goals as goal

-- a block's price less a price fits
difference : (x y : ℤ) → IsFrom (pos 0) (pos 10000000) x → IsWithin 10000000 y → FitsSigned w64 (x -ℤ y)
difference x y f g =
    let a = f.at_least in
    let b = f.at_most in
    let d = g.at_least in
    let e = g.at_most in
    fits_within w64 20000000 (x -ℤ y)
    (record { at_least = omega (arith, ints, a, e); at_most = omega (arith, ints, b, d) }) (omega arith)

-- what a kilowatt of the block earns
each : (c : goal.After-max) → c.max.result ≡ int_max (pos 0) (c.args.block.now.price -ℤ c.args.price)
each c =
    let q = c.ranges.price in
    let f : FitsSigned w64 c.max.result = search rules in
    let fp : FitsSigned w64 c.args.block.now.price = search rules in
    let fits = difference c.args.block.now.price c.args.price c.requires.block.price c.requires.price in
    let e = simp to_z-of_z at c.max.ensures in
    omega (arith, ints, clamps, e)

-- and what all of it does
whole : (c : goal.After-max) → IsFrom (pos 0) (pos 20000000000000000) (c.args.block.now.width *ℤ c.max.result)
whole c =
    let is = each c in
    let pl = c.requires.price.at_least in
    let bh = c.requires.block.price.at_most in
    let few : IsFrom (pos 0) (pos 20000000) c.max.result =
    record { at_least = omega (arith, ints, clamps, is); at_most = omega (arith, ints, clamps, is, pl, bh) } in
    let wl = c.requires.block.width.at_least in
    let width : IsWithin 1000000000 c.args.block.now.width =
    record { at_least = omega (arith, ints, wl); at_most = c.requires.block.width.at_most } in
    record {
      at_least = (times_power c.args.block.now.width c.max.result 20000000 wl few).at_least;
      at_most = (product_within 1000000000 20000000 c.args.block.now.width c.max.result width few).at_most;
    }

room : (c : goal.After-max) → FitsSigned w64 (c.args.block.now.width *ℤ c.max.result)
room c =
    let low = (whole c).at_least in
    fits_within w64 20000000000000000 (c.args.block.now.width *ℤ c.max.result)
    (record { at_least = omega (arith, ints, low); at_most = (whole c).at_most }) (omega arith)

pub overflow_mul-result : goal.overflow_mul-result
overflow_mul-result c =
    let f : FitsSigned w64 c.max.result = search rules in
    let fw : FitsSigned w64 c.args.block.now.width = search rules in
    simp to_z-of_z (room c)

pub returns-clause-value : goal.returns-clause-value
returns-clause-value c =
    let f : FitsSigned w64 c.max.result = search rules in
    let fw : FitsSigned w64 c.args.block.now.width = search rules in
    let fits = room c in
    simp to_z-of_z (ap (λ (z : ℤ). c.args.block.now.width *ℤ z) (each c))

pub returns-clause-limit : goal.returns-clause-limit
returns-clause-limit c =
    let f : FitsSigned w64 c.max.result = search rules in
    let fw : FitsSigned w64 c.args.block.now.width = search rules in
    let fits = room c in
    simp to_z-of_z (whole c)
