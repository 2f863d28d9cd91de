use Rattle.flat_answer.proofs.Common.{length, arith, Bid, bid_of, prices_of, schedule_of, ints}
use Rattle.flat_answer.proofs.Lemmas.{bid_can, bid_earns, bid_by_place, answered_next, answered_all}
use Rattle.flat_answer.proofs.bids.best_bid.Goals as goal

pub loop-k-preserved : goal.loop-k-preserved
loop-k-preserved c =
    answered_next (length c.args.prices.now.energy.items) (bid_can (bid_of c.args.bid.now))
    (bid_earns (bid_of c.args.bid.now) (prices_of c.args.prices.now)) c.loop-k.k
    (schedule_of c.loop-k.into.response) c.loop-k.into.earned c.bid_choice_in_period-choice.result.power
    c.bid_choice_in_period-choice.result.earned
    (schedule_of c.write_choice.new.into.response) c.write_choice.new.into.earned
    c.loop-k.invariant (omega arith) c.bid_choice_in_period-choice.ensures c.write_choice.ensures.schedule
    c.write_choice.ensures.earned

pub returns-clause-least : goal.returns-clause-least
returns-clause-least c =
    (answered_all (Bid (bid_of c.args.bid.now)) (prices_of c.args.prices.now) (bid_can (bid_of c.args.bid.now))
    (bid_earns (bid_of c.args.bid.now) (prices_of c.args.prices.now)) c.loop-k.k
    (schedule_of c.loop-k.into.response) c.loop-k.into.earned
    (bid_by_place (bid_of c.args.bid.now) (prices_of c.args.prices.now))
    (omega arith) c.loop-k.invariant).least

pub returns-clause-earned : goal.returns-clause-earned
returns-clause-earned c =
    (answered_all (Bid (bid_of c.args.bid.now)) (prices_of c.args.prices.now) (bid_can (bid_of c.args.bid.now))
    (bid_earns (bid_of c.args.bid.now) (prices_of c.args.prices.now)) c.loop-k.k
    (schedule_of c.loop-k.into.response) c.loop-k.into.earned
    (bid_by_place (bid_of c.args.bid.now) (prices_of c.args.prices.now))
    (omega arith) c.loop-k.invariant).earned_is

pub write_choice-requires-clause-so_far : goal.write_choice-requires-clause-so_far
write_choice-requires-clause-so_far c =
    let few = c.args.prices.now.valid.horizon.at_most in
    let turn = c.loop-k-test.true in
    let end = c.len-k-end.ensures in
    let low = c.loop-k.invariant.bound.at_least in
    let high = c.loop-k.invariant.bound.at_most in
    record { at_least = omega (arith, ints, low, few, turn, end); at_most = omega (arith, ints, high, few, turn, end) }
