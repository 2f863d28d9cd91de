use Rattle.price_space.proofs.Common.{rules, ◌≡◌, ◌≤ℤ◌, ℤ, pos, negsuc, neg_ℤ, ◌-ℤ◌, unsigned_abs, FitsSigned, refl, ap}
use Rattle.price_space.proofs.Common.{◌∙◌, arith, ints, to_z-of_z, w64, int_div_euclid, fits_within, IsWithin}
use Rattle.price_space.proofs.full_load.cost_per_kilowatt.Goals as goal

magnitude_of : (z : ℤ) → pos 1 ≤ℤ z → z ≡ pos (unsigned_abs z)
magnitude_of (pos n) h = refl
magnitude_of (negsuc n) h = absurd (omega (arith, ints, h))

pub returns : goal.returns
returns c =
    let a = c.ranges.cost in
    let b = c.ranges.power in
    let low = c.requires.cost.at_least in
    let high = c.requires.cost.at_most in
    let within : IsWithin 10000000000000 (pos 0 -ℤ c.args.cost) =
    record { at_least = omega (arith, ints, high); at_most = omega (arith, ints, low) } in
    let fits = fits_within w64 10000000000000 (pos 0 -ℤ c.args.cost) within (omega arith) in
    let d : FitsSigned w64 c.div_euclid.result = search rules in
    let f : FitsSigned w64 (pos 0 -ℤ c.div_euclid.result) = search rules in
    let e = simp to_z-of_z at c.div_euclid.ensures in
    let turned : pos 0 -ℤ c.args.cost ≡ neg_ℤ c.args.cost = omega (arith, ints) in
    let whole = e ∙ ap (λ (z : ℤ). int_div_euclid z c.args.power) turned ∙
    ap (λ (z : ℤ). int_div_euclid (neg_ℤ c.args.cost) z)
    (magnitude_of c.args.power c.requires.power.at_least) in
    let back : pos 0 -ℤ c.div_euclid.result ≡ neg_ℤ c.div_euclid.result = omega (arith, ints) in
    simp to_z-of_z (back ∙ ap neg_ℤ whole)
