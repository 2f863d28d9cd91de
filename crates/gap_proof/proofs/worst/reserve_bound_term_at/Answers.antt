use Rattle.gap_proof.proofs.Common.{rules, ℤ, ◌*ℤ◌, ap, FitsSigned, arith, to_z-of_z, w128, IsWithin}
use Rattle.gap_proof.proofs.Common.{signed_product_within, fits_within}
use Rattle.gap_proof.proofs.worst.reserve_bound_term_at.Goals as goal

pub overflow_mul-result : goal.overflow_mul-result
overflow_mul-result c =
    let p = c.ranges.lacking in
    let q = c.ranges.price in
    let a : FitsSigned w128 c.from.result = search rules in
    let e = simp to_z-of_z at c.from.ensures in
    let within : IsWithin 177000000000000000000000000000000 (c.args.lacking *ℤ c.from.result) =
    rw e (signed_product_within 17700000000000000000000000 10000000 c.args.lacking c.args.price c.requires.lacking
    c.requires.price) in
    let fits = fits_within w128 177000000000000000000000000000000 (c.args.lacking *ℤ c.from.result) within
    (omega arith) in
    simp to_z-of_z fits

pub returns : goal.returns
returns c =
    let p = c.ranges.lacking in
    let q = c.ranges.price in
    let a : FitsSigned w128 c.from.result = search rules in
    let e = simp to_z-of_z at c.from.ensures in
    let within : IsWithin 177000000000000000000000000000000 (c.args.lacking *ℤ c.from.result) =
    rw e (signed_product_within 17700000000000000000000000 10000000 c.args.lacking c.args.price c.requires.lacking
    c.requires.price) in
    let fits = fits_within w128 177000000000000000000000000000000 (c.args.lacking *ℤ c.from.result) within
    (omega arith) in
    record { value = simp to_z-of_z (ap (λ (z : ℤ). c.args.lacking *ℤ z) e); limit = simp to_z-of_z within }
