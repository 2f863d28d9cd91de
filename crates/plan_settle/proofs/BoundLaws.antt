-- The size of the best bound round the chosen row of a run.
use Rattle.plan_settle.proofs.Common.{ℤ, arith, ints}
use Rattle.gap_proof.specs.PlaneSums.{least_bound, most_bound}
use Rattle.plain_lists.specs.Ranges.{IsFrom}
use Rattle.right_report.specs.Told.{IsTold}

pub bound_told : (limit : ℤ) → IsFrom least_bound most_bound limit → IsTold limit
bound_told limit within =
    let low = within.at_least in
    let high = within.at_most in
    record { at_least = omega (arith, ints, low); at_most = omega (arith, ints, high) }
