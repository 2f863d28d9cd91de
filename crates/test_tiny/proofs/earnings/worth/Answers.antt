use Rattle.test_tiny.proofs.Common.{rules, arith, pos, neg_ℤ, ◌*ℤ◌, ints, to_z-of_z, w128, FitsSigned, IsFrom}
use Rattle.test_tiny.proofs.Common.{fits_within}
use Rattle.test_tiny.proofs.Lemmas.{product_bound}
use Rattle.test_tiny.proofs.earnings.worth.Goals as goal

pub returns-clause-bound : goal.returns-clause-bound
returns-clause-bound c =
    let p = c.ranges.price in
    let q = c.ranges.kilowatts in
    let a : FitsSigned w128 c.from.result = search rules in
    let b : FitsSigned w128 c.from-2.result = search rules in
    let e = simp to_z-of_z at c.from.ensures in
    let f = simp to_z-of_z at c.from-2.ensures in
    let low = c.requires.kilowatts.at_least in
    let kilowatts : IsFrom (neg_ℤ (pos 4294967296)) (pos 4294967296) c.args.kilowatts =
    record { at_least = omega (arith, ints, low); at_most = c.requires.kilowatts.at_most } in
    let within : IsFrom (neg_ℤ (pos 42949672960000000)) (pos 42949672960000000) (c.from.result *ℤ c.from-2.result) =
    rw (e, f) (product_bound 10000000 4294967296 c.args.price c.args.kilowatts c.requires.price kilowatts) in
    let fits = fits_within w128 42949672960000000 (c.from.result *ℤ c.from-2.result) within (omega arith) in
    simp to_z-of_z within
