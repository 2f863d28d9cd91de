use Rattle.gap_proof.proofs.Common.{rules, ℤ, ◌+ℤ◌, ap, ◌∙◌, arith, FitsSigned, ints, clamps, to_z-of_z, w64, int_min}
use Rattle.gap_proof.proofs.Common.{price_limit, fits_within, IsWithin}
use Rattle.gap_proof.proofs.plane_sums.high_end_of_price.Goals as goal

pub returns-clause-value : goal.returns-clause-value
returns-clause-value c =
    let q = c.ranges.radius in
    let b : FitsSigned w64 c.price_at_place.result = search rules in
    let f : FitsSigned w64 c.min.result = search rules in
    let p = c.price_at_place.ensures.limits.at_least in
    let r = c.price_at_place.ensures.limits.at_most in
    let s = c.requires.radius.at_least in
    let t = c.requires.radius.at_most in
    let within : IsWithin 40000000 (c.price_at_place.result +ℤ c.args.radius) =
    record { at_least = omega (arith, ints, p, s); at_most = omega (arith, ints, r, t) } in
    let fits = fits_within w64 40000000 (c.price_at_place.result +ℤ c.args.radius) within (omega arith) in
    let e = simp to_z-of_z at c.min.ensures in
    simp to_z-of_z (e.value ∙ ap (λ (z : ℤ). int_min price_limit (z +ℤ c.args.radius)) c.price_at_place.ensures.value)

pub returns-clause-limits : goal.returns-clause-limits
returns-clause-limits c =
    let q = c.ranges.radius in
    let b : FitsSigned w64 c.price_at_place.result = search rules in
    let f : FitsSigned w64 c.min.result = search rules in
    let p = c.price_at_place.ensures.limits.at_least in
    let r = c.price_at_place.ensures.limits.at_most in
    let s = c.requires.radius.at_least in
    let t = c.requires.radius.at_most in
    let within : IsWithin 40000000 (c.price_at_place.result +ℤ c.args.radius) =
    record { at_least = omega (arith, ints, p, s); at_most = omega (arith, ints, r, t) } in
    let fits = fits_within w64 40000000 (c.price_at_place.result +ℤ c.args.radius) within (omega arith) in
    let e = simp to_z-of_z at c.min.ensures in
    let limits : IsWithin 10000000 c.min.result =
    record { at_least = omega (arith, ints, clamps, e, p, s); at_most = omega (arith, ints, clamps, e) } in
    simp to_z-of_z limits
