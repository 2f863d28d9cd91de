-- What a block adds, as it is stored.
use Rattle.test_shapes.proofs.Common.{◌≡◌, ℤ, ◌+ℤ◌, ◌*ℤ◌, ap, ◌∙◌, arith, w64, FitsSigned, ints, to_z-of_z, IsAmount}
use Rattle.test_shapes.proofs.Common.{stored, fits64}

pub block_sum : (v p r : ℤ) → FitsSigned w64 p → FitsSigned w64 r → IsAmount v → IsAmount (v +ℤ (p *ℤ r)) →
    stored (stored v +ℤ stored (stored p *ℤ stored r)) ≡ v +ℤ (p *ℤ r)
block_sum v p r fp fr hv hs =
    let a = hv.at_least in let b = hv.at_most in let c = hs.at_least in let d = hs.at_most in
    let e = ap (λ (z : ℤ). z *ℤ stored r) (to_z-of_z w64 p fp) ∙ ap (λ (z : ℤ). p *ℤ z) (to_z-of_z w64 r fr) in
    let f = ap stored e ∙ to_z-of_z w64 (p *ℤ r)
    (fits64 (p *ℤ r) (omega (arith, ints, b, c)) (omega (arith, ints, a, d))) in
    let g = to_z-of_z w64 v (fits64 v (omega (arith, ints, a)) (omega (arith, ints, b))) in
    let s : stored v +ℤ stored (stored p *ℤ stored r) ≡ v +ℤ (p *ℤ r) = omega (arith, ints, f, g) in
    ap stored s ∙ to_z-of_z w64 (v +ℤ (p *ℤ r))
    (fits64 (v +ℤ (p *ℤ r)) (omega (arith, ints, c)) (omega (arith, ints, d)))
