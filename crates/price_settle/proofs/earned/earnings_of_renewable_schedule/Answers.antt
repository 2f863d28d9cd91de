use Rattle.price_settle.proofs.Common.{arith, ints, schedule_of, prices_of}
use Rattle.price_settle.proofs.Lemmas.{flat_paid}
use Rattle.price_settle.proofs.earned.earnings_of_renewable_schedule.Goals as goal

pub returns : goal.returns
returns c = λ r.
    let paid = flat_paid (prices_of c.args.prices.now) (schedule_of c.args.response.now) c.args.response.now.valid r in
    let energy = c.paid_for_amounts.ensures.value in
    let energy_low = c.paid_for_amounts.ensures.limit.at_least in
    let energy_high = c.paid_for_amounts.ensures.limit.at_most in
    let reserve = c.paid_for_amounts-2.ensures.value in
    let reserve_low = c.paid_for_amounts-2.ensures.limit.at_least in
    let reserve_high = c.paid_for_amounts-2.ensures.limit.at_most in
    omega (arith, ints, paid, energy, energy_low, energy_high, reserve, reserve_low, reserve_high)
