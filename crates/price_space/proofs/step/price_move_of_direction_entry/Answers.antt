use Rattle.price_space.proofs.Common.{rules, ◌≡◌, ◌*◌, pos, neg_ℤ, ℤ, ◌*ℤ◌, ◌<ℤ◌, ◌<◌, negsuc, of_z, int_div}
use Rattle.price_space.proofs.Common.{FitsSigned, ap, arith, ints, to_z-of_z, quot_fits, *ℤ_comm, w128, IsFrom}
use Rattle.price_space.proofs.Common.{product_within, fits_within, IsWithin}
use Rattle.price_space.proofs.Squares.{quotient_within}
use Rattle.price_space.proofs.step.price_move_of_direction_entry.Goals as goal

fits128 : (z : ℤ) → IsWithin (20000000000000 * 2000000000000000000000000) z → FitsSigned w128 z
fits128 z h = fits_within w128 (20000000000000 * 2000000000000000000000000) z h (omega arith)

stored_positive : (z : ℤ) → pos 0 <ℤ z → 0 < of_z w128 z
stored_positive (pos n) low = omega (arith, ints, low)
stored_positive (negsuc n) low = absurd (omega (arith, ints, low))

-- the product of the gap with the entry, as it stands in its register
multiplied : (gap entry x : ℤ) → IsFrom (pos 0) (pos 2000000000000000000000000) gap → IsWithin 20000000000000 entry →
    x ≡ entry → IsWithin (20000000000000 * 2000000000000000000000000) (gap *ℤ x)
multiplied gap entry x few within is =
    let turned = product_within 20000000000000 2000000000000000000000000 entry gap within few in
    rw (is, *ℤ_comm gap entry) turned

pub overflow_mul-result : goal.overflow_mul-result
overflow_mul-result c =
    let g : FitsSigned w128 c.from.result = search rules in
    let h : FitsSigned w128 c.args.step.gap = search rules in
    let f = c.ranges.entry in
    let is : c.from.result ≡ c.args.entry = simp to_z-of_z at c.from.ensures in
    let fits = fits128 (c.args.step.gap *ℤ c.from.result)
    (multiplied c.args.step.gap c.args.entry c.from.result c.requires.gap c.requires.entry is) in
    simp to_z-of_z fits

pub nonzero_div-result : goal.nonzero_div-result
nonzero_div-result c =
    let low = c.requires.scale.at_least in
    let f = c.ranges.entry in
    let g : FitsSigned w128 c.from.result = search rules in
    let h : FitsSigned w128 c.args.step.gap = search rules in
    let j : FitsSigned w128 c.args.step.scale = search rules in
    let is : c.from.result ≡ c.args.entry = simp to_z-of_z at c.from.ensures in
    let fits = fits128 (c.args.step.gap *ℤ c.from.result)
    (multiplied c.args.step.gap c.args.entry c.from.result c.requires.gap c.requires.entry is) in
    let positive : pos 0 <ℤ c.args.step.scale = omega (arith, ints, low) in
    let whole = quot_fits w128 (c.args.step.gap *ℤ c.from.result) c.args.step.scale fits positive in
    (stored_positive c.args.step.scale positive, simp to_z-of_z whole)

pub returns-clause-value : goal.returns-clause-value
returns-clause-value c =
    let low = c.requires.scale.at_least in
    let f = c.ranges.entry in
    let g : FitsSigned w128 c.from.result = search rules in
    let h : FitsSigned w128 c.args.step.gap = search rules in
    let j : FitsSigned w128 c.args.step.scale = search rules in
    let is : c.from.result ≡ c.args.entry = simp to_z-of_z at c.from.ensures in
    let product = multiplied c.args.step.gap c.args.entry c.from.result c.requires.gap c.requires.entry is in
    let fits = fits128 (c.args.step.gap *ℤ c.from.result) product in
    let positive : pos 0 <ℤ c.args.step.scale = omega (arith, ints, low) in
    let whole = quot_fits w128 (c.args.step.gap *ℤ c.from.result) c.args.step.scale fits positive in
    simp to_z-of_z (ap (λ (z : ℤ). int_div (c.args.step.gap *ℤ z) c.args.step.scale) is)

pub returns-clause-bound : goal.returns-clause-bound
returns-clause-bound c =
    let low = c.requires.scale.at_least in
    let f = c.ranges.entry in
    let g : FitsSigned w128 c.from.result = search rules in
    let h : FitsSigned w128 c.args.step.gap = search rules in
    let j : FitsSigned w128 c.args.step.scale = search rules in
    let is : c.from.result ≡ c.args.entry = simp to_z-of_z at c.from.ensures in
    let product = multiplied c.args.step.gap c.args.entry c.from.result c.requires.gap c.requires.entry is in
    let fits = fits128 (c.args.step.gap *ℤ c.from.result) product in
    let positive : pos 0 <ℤ c.args.step.scale = omega (arith, ints, low) in
    let whole = quot_fits w128 (c.args.step.gap *ℤ c.from.result) c.args.step.scale fits positive in
    let bound : IsFrom (neg_ℤ (pos 40000000000000000000000000000000000000)) (pos 40000000000000000000000000000000000000)
    (int_div (c.args.step.gap *ℤ c.from.result) c.args.step.scale) =
    quotient_within 40000000000000000000000000000000000000 (c.args.step.gap *ℤ c.from.result) c.args.step.scale product
    positive in
    simp to_z-of_z bound
