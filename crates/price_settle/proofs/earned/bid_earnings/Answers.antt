use Rattle.price_settle.proofs.Common.{arith, ints, bid_of, schedule_of, prices_of}
use Rattle.price_settle.proofs.Lemmas.{bid_paid}
use Rattle.price_settle.proofs.earned.bid_earnings.Goals as goal

pub returns : goal.returns
returns c =
    let paid = bid_paid (prices_of c.args.prices.now) (schedule_of c.args.response.now) c.args.response.now.valid
    (bid_of c.args.bid.now) in
    let energy = c.paid_for_amounts-energy.ensures.value in
    let energy_low = c.paid_for_amounts-energy.ensures.limit.at_least in
    let energy_high = c.paid_for_amounts-energy.ensures.limit.at_most in
    let reserve = c.paid_for_amounts-reserve.ensures.value in
    let reserve_low = c.paid_for_amounts-reserve.ensures.limit.at_least in
    let reserve_high = c.paid_for_amounts-reserve.ensures.limit.at_most in
    let worth = c.worth_of_bid.ensures.value in
    let worth_low = c.worth_of_bid.ensures.limit.at_least in
    let worth_high = c.worth_of_bid.ensures.limit.at_most in
    omega (
      arith,
      ints,
      paid,
      energy,
      energy_low,
      energy_high,
      reserve,
      reserve_low,
      reserve_high,
      worth,
      worth_low,
      worth_high,
    )
