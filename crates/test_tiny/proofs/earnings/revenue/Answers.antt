use Rattle.test_tiny.proofs.Common.{arith, ints}
use Rattle.test_tiny.proofs.earnings.revenue.Goals as goal

pub plus-requires-clause-a : goal.plus-requires-clause-a
plus-requires-clause-a c =
    let low = c.worth-energy.ensures.bound.at_least in
    let high = c.worth-energy.ensures.bound.at_most in
    record { at_least = omega (arith, ints, low); at_most = omega (arith, ints, high) }

pub plus-requires-clause-b : goal.plus-requires-clause-b
plus-requires-clause-b c =
    let low = c.worth-reserve.ensures.bound.at_least in
    let high = c.worth-reserve.ensures.bound.at_most in
    record { at_least = omega (arith, ints, low); at_most = omega (arith, ints, high) }

pub returns-clause-bound : goal.returns-clause-bound
returns-clause-bound c =
    let low = c.worth-energy.ensures.bound.at_least in
    let high = c.worth-energy.ensures.bound.at_most in
    let low' = c.worth-reserve.ensures.bound.at_least in
    let high' = c.worth-reserve.ensures.bound.at_most in
    let sum = c.plus.ensures in
    record { at_least = omega (arith, ints, low, low', sum); at_most = omega (arith, ints, high, high', sum) }
