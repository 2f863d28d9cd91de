use Rattle.gap_proof.proofs.Common.{rules, ℤ, ◌*ℤ◌, ap, ◌∙◌, arith, FitsSigned, to_z-of_z, w128, fits_within, IsWithin}
use Rattle.gap_proof.proofs.Lemmas.{signed_product_within}
use Rattle.gap_proof.proofs.planes.slope_times_price.Goals as goal

pub overflow_mul-result : goal.overflow_mul-result
overflow_mul-result c =
    let p = c.ranges.slope in
    let q = c.ranges.price in
    let a : FitsSigned w128 c.from.result = search rules in
    let b : FitsSigned w128 c.from-2.result = search rules in
    let e = simp to_z-of_z at c.from.ensures in
    let f = simp to_z-of_z at c.from-2.ensures in
    let within : IsWithin 200000000000000000000 (c.from.result *ℤ c.from-2.result) =
    rw (e, f) (signed_product_within 20000000000000 10000000 c.args.slope c.args.price c.requires.slope
    c.requires.price) in
    let fits = fits_within w128 200000000000000000000 (c.from.result *ℤ c.from-2.result) within (omega arith) in
    simp to_z-of_z fits

pub returns : goal.returns
returns c =
    let p = c.ranges.slope in
    let q = c.ranges.price in
    let a : FitsSigned w128 c.from.result = search rules in
    let b : FitsSigned w128 c.from-2.result = search rules in
    let e = simp to_z-of_z at c.from.ensures in
    let f = simp to_z-of_z at c.from-2.ensures in
    let within : IsWithin 200000000000000000000 (c.from.result *ℤ c.from-2.result) =
    rw (e, f) (signed_product_within 20000000000000 10000000 c.args.slope c.args.price c.requires.slope
    c.requires.price) in
    let fits = fits_within w128 200000000000000000000 (c.from.result *ℤ c.from-2.result) within (omega arith) in
    record {
      value = simp to_z-of_z (ap (λ (z : ℤ). z *ℤ c.from-2.result) e ∙ ap (λ (z : ℤ). c.args.slope *ℤ z) f);
      bound = simp to_z-of_z within;
    }
