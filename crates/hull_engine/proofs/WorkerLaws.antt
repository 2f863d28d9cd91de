-- How many workers a run has.
use Rattle.hull_engine.proofs.Common.{ℕ, arith}
use Rattle.hull_input.specs.Sizes.{IsWorkers}
use Rattle.hull_engine.specs.Workers.{IsUseful}

pub useful_within : (asked n : ℕ) → IsWorkers asked → IsUseful asked n → IsWorkers n
useful_within asked n within (processors, is) =
    let low = within.at_least in
    let high = within.at_most in
    record { at_least = omega (arith, is, low); at_most = omega (arith, is, high) }
