use Rattle.price_settle.proofs.Common.{market_of, schedules_of, arith, ints}
use Rattle.price_settle.proofs.settlement.surplus_reserve_at.Goals as goal

pub required_and_given_reserve-reserves-requires-clause-shape :
    goal.required_and_given_reserve-reserves-requires-clause-shape
required_and_given_reserve-reserves-requires-clause-shape c =
    c.feasible_plans_have_shape.ensures (market_of c.args.case.now) (schedules_of c.args.plan.now) c.requires.feasible

pub returns-clause-value : goal.returns-clause-value
returns-clause-value c =
    let r = c.required_and_given_reserve-reserves.ensures in
    let required = r.required in
    let given = r.given in
    let a = r.required_limit.at_least in
    let b = r.required_limit.at_most in
    let d = r.given_limit.at_least in
    let e = r.given_limit.at_most in
    omega (arith, ints, required, given, a, b, d, e)

pub returns-clause-limit : goal.returns-clause-limit
returns-clause-limit c =
    let r = c.required_and_given_reserve-reserves.ensures in
    let a = r.required_limit.at_least in
    let b = r.required_limit.at_most in
    let d = r.given_limit.at_least in
    let e = r.given_limit.at_most in
    record { at_least = omega (arith, ints, a, b, d, e); at_most = omega (arith, ints, a, b, d, e) }
