use Rattle.gap_proof.proofs.Common.{rules, ℤ, ◌*ℤ◌, ap, arith, FitsSigned, to_z-of_z, w128, fits_within, IsWithin}
use Rattle.gap_proof.proofs.Lemmas.{signed_product_within, within_both}
use Rattle.gap_proof.proofs.plane_sums.weighted_plane_height.Goals as goal

pub overflow_mul-result : goal.overflow_mul-result
overflow_mul-result c =
    let p = c.ranges.weight in
    let q = c.ranges.height in
    let a : FitsSigned w128 c.from.result = search rules in
    let e = simp to_z-of_z at c.from.ensures in
    let within : IsWithin 2000000000000000000000000000000 (c.from.result *ℤ c.args.height) =
    rw e (signed_product_within 1000000 2000000000000000000000000 c.args.weight c.args.height
    (within_both 1000000 c.args.weight c.requires.weight) c.requires.height) in
    let fits = fits_within w128 2000000000000000000000000000000 (c.from.result *ℤ c.args.height) within (omega arith) in
    simp to_z-of_z fits

pub returns-clause-bound : goal.returns-clause-bound
returns-clause-bound c =
    let p = c.ranges.weight in
    let q = c.ranges.height in
    let a : FitsSigned w128 c.from.result = search rules in
    let e = simp to_z-of_z at c.from.ensures in
    let within : IsWithin 2000000000000000000000000000000 (c.from.result *ℤ c.args.height) =
    rw e (signed_product_within 1000000 2000000000000000000000000 c.args.weight c.args.height
    (within_both 1000000 c.args.weight c.requires.weight) c.requires.height) in
    let fits = fits_within w128 2000000000000000000000000000000 (c.from.result *ℤ c.args.height) within (omega arith) in
    simp to_z-of_z within

pub returns-clause-value : goal.returns-clause-value
returns-clause-value c =
    let p = c.ranges.weight in
    let q = c.ranges.height in
    let a : FitsSigned w128 c.from.result = search rules in
    let e = simp to_z-of_z at c.from.ensures in
    let within : IsWithin 2000000000000000000000000000000 (c.from.result *ℤ c.args.height) =
    rw e (signed_product_within 1000000 2000000000000000000000000 c.args.weight c.args.height
    (within_both 1000000 c.args.weight c.requires.weight) c.requires.height) in
    let fits = fits_within w128 2000000000000000000000000000000 (c.from.result *ℤ c.args.height) within (omega arith) in
    simp to_z-of_z (ap (λ (z : ℤ). z *ℤ c.args.height) e)
