use Rattle.test_units.proofs.Common.{on_ok_weaker, thermal_of, prices_of}
use Rattle.test_units.proofs.Lemmas.{filled_off, filled_on}
use Rattle.test_units.proofs.program.begin.Goals as goal

pub returns-then-not-unit-clause-filled : goal.returns-then-not-unit-clause-filled
returns-then-not-unit-clause-filled g c =
    let begun = c.reset_table_to_row_before_horizon.ensures in
    filled_off (thermal_of c.args.unit.now) (prices_of c.args.prices.now)
    c.reset_table_to_row_before_horizon.new.table.items begun.first
    begun.rest begun.within c.if-not-unit.true

pub returns-clause-filled : goal.returns-clause-filled
returns-clause-filled g c =
    let begun = c.reset_table_to_row_before_horizon.ensures in
    let horizon = c.args.prices.now.valid.horizon.at_least in
    on_ok_weaker c.add_spells_from.result
    (λ added. filled_on (thermal_of c.args.unit.now) (prices_of c.args.prices.now)
    c.reset_table_to_row_before_horizon.new.table.items
    begun.first begun.rest begun.within c.stops_at_once_cost_nothing.ensures
    c.if-not-unit.false horizon c.add_spells_from.new.table.items added) c.add_spells_from.ensures.added
