use Rattle.price_settle.proofs.Common.{arith, ints, thermal_of, schedule_of, prices_of}
use Rattle.price_settle.proofs.Lemmas.{thermal_paid}
use Rattle.price_settle.proofs.earned.thermal_earnings.Goals as goal

pub returns : goal.returns
returns c =
    let s = schedule_of c.args.response.now in
    let paid = thermal_paid (prices_of c.args.prices.now) s c.args.response.now.valid (thermal_of c.args.unit.now) in
    let energy = c.paid_for_amounts-energy.ensures.value in
    let energy_low = c.paid_for_amounts-energy.ensures.limit.at_least in
    let energy_high = c.paid_for_amounts-energy.ensures.limit.at_most in
    let reserve = c.paid_for_amounts-reserve.ensures.value in
    let reserve_low = c.paid_for_amounts-reserve.ensures.limit.at_least in
    let reserve_high = c.paid_for_amounts-reserve.ensures.limit.at_most in
    let powers = c.power_costs.ensures.value in
    let powers_low = c.power_costs.ensures.limit.at_least in
    let powers_high = c.power_costs.ensures.limit.at_most in
    let starts = c.costs_of_starts.ensures.value in
    let starts_low = c.costs_of_starts.ensures.limit.at_least in
    let starts_high = c.costs_of_starts.ensures.limit.at_most in
    let wide = c.from.ensures in
    omega (
      arith,
      ints,
      paid,
      energy,
      energy_low,
      energy_high,
      reserve,
      reserve_low,
      reserve_high,
      powers,
      powers_low,
      powers_high,
      starts,
      starts_low,
      starts_high,
      wide,
    )
