use Rattle.gap_proof.proofs.Common.{rules, FitsSigned, arith, ints, clamps, to_z-of_z, w128, IsWithin}
use Rattle.gap_proof.proofs.worst.greatest_reserve_bound_term.Goals as goal

pub returns-clause-limit : goal.returns-clause-limit
returns-clause-limit c =
    let a : FitsSigned w128 c.reserve_bound_term_at.result = search rules in
    let b : FitsSigned w128 c.reserve_bound_term_at-2.result = search rules in
    let f : FitsSigned w128 c.max.result = search rules in
    let e = simp to_z-of_z at c.max.ensures in
    let p = c.reserve_bound_term_at.ensures.limit.at_least in
    let q = c.reserve_bound_term_at.ensures.limit.at_most in
    let r = c.reserve_bound_term_at-2.ensures.limit.at_least in
    let s = c.reserve_bound_term_at-2.ensures.limit.at_most in
    let within : IsWithin 177000000000000000000000000000000 c.max.result =
    record {
      at_least = omega (arith, ints, clamps, e, p, r);
      at_most =
          omega (arith, ints, clamps, e, q, s);
    } in
    simp to_z-of_z within
