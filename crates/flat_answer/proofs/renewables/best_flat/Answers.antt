use Rattle.flat_answer.proofs.Common.{length, arith, ints, Flat, renewable_of, prices_of, schedule_of}
use Rattle.flat_answer.proofs.Lemmas.{flat_can, flat_earns, flat_by_place, answered_next, answered_all}
use Rattle.flat_answer.proofs.renewables.best_flat.Goals as goal

pub write_choice-requires-clause-so_far : goal.write_choice-requires-clause-so_far
write_choice-requires-clause-so_far c =
    let few = c.args.prices.now.valid.horizon.at_most in
    let turn = c.loop-k-test.true in
    let end = c.len-k-end.ensures in
    let low = c.loop-k.invariant.bound.at_least in
    let high = c.loop-k.invariant.bound.at_most in
    record { at_least = omega (arith, ints, low, few, turn, end); at_most = omega (arith, ints, high, few, turn, end) }

pub loop-k-preserved : goal.loop-k-preserved
loop-k-preserved c =
    answered_next (length c.args.prices.now.energy.items) (flat_can (renewable_of c.args.flat.now))
    (flat_earns (prices_of c.args.prices.now)) c.loop-k.k
    (schedule_of c.loop-k.into.response) c.loop-k.into.earned c.renewable_choice_in_period-choice.result.power
    c.renewable_choice_in_period-choice.result.earned
    (schedule_of c.write_choice.new.into.response) c.write_choice.new.into.earned
    c.loop-k.invariant (omega arith) c.renewable_choice_in_period-choice.ensures c.write_choice.ensures.schedule
    c.write_choice.ensures.earned

pub returns-clause-least : goal.returns-clause-least
returns-clause-least c =
    (answered_all (Flat (renewable_of c.args.flat.now)) (prices_of c.args.prices.now)
    (flat_can (renewable_of c.args.flat.now)) (flat_earns (prices_of c.args.prices.now)) c.loop-k.k
    (schedule_of c.loop-k.into.response) c.loop-k.into.earned
    (flat_by_place (renewable_of c.args.flat.now) (prices_of c.args.prices.now))
    (omega arith) c.loop-k.invariant).least

pub returns-clause-earned : goal.returns-clause-earned
returns-clause-earned c =
    (answered_all (Flat (renewable_of c.args.flat.now)) (prices_of c.args.prices.now)
    (flat_can (renewable_of c.args.flat.now)) (flat_earns (prices_of c.args.prices.now)) c.loop-k.k
    (schedule_of c.loop-k.into.response) c.loop-k.into.earned
    (flat_by_place (renewable_of c.args.flat.now) (prices_of c.args.prices.now))
    (omega arith) c.loop-k.invariant).earned_is
