use Rattle.spell_run.proofs.Lemmas.{read_is, step_fair, slope_fits, step_stored}
use Rattle.spell_run.proofs.step.step_terms_of_period.Goals as goal

pub overflow_sub-result : goal.overflow_sub-result
overflow_sub-result c =
    slope_fits c.args.starts c.args.stops c.args.unit.now.valid c.args.prices.now.valid c.requires
    c.power_and_reserve_cap_in_period-cap.ensures
    c.greatest_power_in_period.ensures (read_is c.args.prices.now.energy.items c.args.index
    c.get-energy_price.ensures.item)
    (read_is c.args.prices.now.reserve.items c.args.index c.get-reserve_price.ensures.item)

pub returns-clause-step : goal.returns-clause-step
returns-clause-step c =
    step_stored c.args.starts c.args.stops c.args.unit.now.valid c.args.prices.now.valid c.requires
    c.power_and_reserve_cap_in_period-cap.ensures
    c.greatest_power_in_period.ensures (read_is c.args.prices.now.energy.items c.args.index
    c.get-energy_price.ensures.item)
    (read_is c.args.prices.now.reserve.items c.args.index c.get-reserve_price.ensures.item)

pub returns-clause-fair : goal.returns-clause-fair
returns-clause-fair c =
    rw (returns-clause-step c) (step_fair c.args.starts c.args.stops c.args.unit.now.valid c.args.prices.now.valid
    c.requires)
