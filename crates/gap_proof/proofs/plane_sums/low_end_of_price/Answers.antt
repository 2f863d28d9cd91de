use Rattle.gap_proof.proofs.Common.{rules, ℤ, ◌-ℤ◌, ap, ◌∙◌, arith, FitsSigned, ints, clamps, to_z-of_z, w64, int_max}
use Rattle.gap_proof.proofs.Common.{market_of, fits_within, IsWithin, lowest_price}
use Rattle.gap_proof.proofs.plane_sums.low_end_of_price.Goals as goal

pub returns-clause-value : goal.returns-clause-value
returns-clause-value c =
    let q = c.ranges.radius in
    let a : FitsSigned w64 c.least_price_at.result = search rules in
    let b : FitsSigned w64 c.price_at_place.result = search rules in
    let f : FitsSigned w64 c.max.result = search rules in
    let p = c.price_at_place.ensures.limits.at_least in
    let r = c.price_at_place.ensures.limits.at_most in
    let s = c.requires.radius.at_least in
    let t = c.requires.radius.at_most in
    let within : IsWithin 40000000 (c.price_at_place.result -ℤ c.args.radius) =
    record { at_least = omega (arith, ints, p, t); at_most = omega (arith, ints, r, s) } in
    let fits = fits_within w64 40000000 (c.price_at_place.result -ℤ c.args.radius) within (omega arith) in
    let e = simp to_z-of_z at c.max.ensures in
    simp to_z-of_z
    (e.value ∙ ap (λ (z : ℤ). int_max z (c.price_at_place.result -ℤ c.args.radius)) c.least_price_at.ensures.value
    ∙ ap (λ (z : ℤ). int_max (lowest_price (market_of c.args.case.now) c.args.index) (z -ℤ c.args.radius))
    c.price_at_place.ensures.value)

pub returns-clause-limits : goal.returns-clause-limits
returns-clause-limits c =
    let q = c.ranges.radius in
    let a : FitsSigned w64 c.least_price_at.result = search rules in
    let b : FitsSigned w64 c.price_at_place.result = search rules in
    let f : FitsSigned w64 c.max.result = search rules in
    let p = c.price_at_place.ensures.limits.at_least in
    let r = c.price_at_place.ensures.limits.at_most in
    let s = c.requires.radius.at_least in
    let t = c.requires.radius.at_most in
    let u = c.least_price_at.ensures.limits.at_least in
    let v = c.least_price_at.ensures.limits.at_most in
    let within : IsWithin 40000000 (c.price_at_place.result -ℤ c.args.radius) =
    record { at_least = omega (arith, ints, p, t); at_most = omega (arith, ints, r, s) } in
    let fits = fits_within w64 40000000 (c.price_at_place.result -ℤ c.args.radius) within (omega arith) in
    let e = simp to_z-of_z at c.max.ensures in
    let limits : IsWithin 10000000 c.max.result =
    record {
      at_least = omega (arith, ints, clamps, e, u);
      at_most =
          omega (arith, ints, clamps, e, v, r, s);
    } in
    simp to_z-of_z limits
