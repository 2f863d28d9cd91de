use Rattle.gap_proof.proofs.Common.{rules, arith, FitsSigned, ints, clamps, to_z-of_z, w128, IsWithin}
use Rattle.gap_proof.proofs.plane_sums.greatest_slope_term_in_interval.Goals as goal

pub returns-clause-bound : goal.returns-clause-bound
returns-clause-bound c =
    let a : FitsSigned w128 c.slope_sum_times_price.result = search rules in
    let b : FitsSigned w128 c.slope_sum_times_price-2.result = search rules in
    let f : FitsSigned w128 c.max.result = search rules in
    let e = simp to_z-of_z at c.max.ensures in
    let p = c.slope_sum_times_price.ensures.bound.at_least in
    let q = c.slope_sum_times_price.ensures.bound.at_most in
    let r = c.slope_sum_times_price-2.ensures.bound.at_least in
    let s = c.slope_sum_times_price-2.ensures.bound.at_most in
    let within : IsWithin 10000000000000000000000000000000 c.max.result =
    record {
      at_least = omega (arith, ints, clamps, e, p, r);
      at_most =
          omega (arith, ints, clamps, e, q, s);
    } in
    simp to_z-of_z within
