use Rattle.test_units.proofs.Common.{length, refl, sym, arith, thermal_of, prices_of, net_at, ◌∙◌, ap}
use Rattle.test_units.proofs.Lemmas.{no_spell_after, none_long_enough, added_none, answers_at}
use Rattle.test_units.proofs.program.add_spells_from.Goals as goal

pub returns-then-until-max-clause-added : goal.returns-then-until-max-clause-added
returns-then-until-max-clause-added g c =
    let u = thermal_of c.args.unit.now in
    let T = length c.args.prices.now.energy.items in
    added_none u (prices_of c.args.prices.now) c.args.first c.args.entry.now.last c.args.entry.now.cost
    c.args.table.now.items
    (λ l one spell. no_spell_after u T c.args.first c.open_until-until.result (sym c.requires.horizon)
    c.open_until-until.ensures l
    (omega (arith, one)) spell) c.requires.within

pub returns-then-not-may_end_spell-clause-added : goal.returns-then-not-may_end_spell-clause-added
returns-then-not-may_end_spell-clause-added g c =
    let u = thermal_of c.args.unit.now in
    let T = length c.args.prices.now.energy.items in
    let short = c.may_end_spell.ensures.no c.if-not-may_end_spell.true in
    added_none u (prices_of c.args.prices.now) c.args.first c.args.entry.now.last c.args.entry.now.cost
    c.args.table.now.items
    (λ l one spell. none_long_enough u T c.args.first c.open_until-until.result (sym c.requires.horizon)
    c.open_until-until.ensures (omega arith) short.1 l spell) c.requires.within

pub returns-clause-added : goal.returns-clause-added
returns-clause-added g c =
    let costs = c.spell_costs.new.into.items in
    record {
      nets = net_at costs;
      none = refl;
      right = answers_at (thermal_of c.args.unit.now) (prices_of c.args.prices.now)
          (length c.args.prices.now.energy.items) c.args.first c.max-2.result costs c.max-2.ensures
          c.in_ok-spell_costs.ensures.least;
      update = rw (c.len-periods.ensures, c.as_slice.ensures) at c.add_spells.ensures.update;
      within = c.add_spells.ensures.within;
    }

pub add_spells-requires-clause-periods : goal.add_spells-requires-clause-periods
add_spells-requires-clause-periods g c = c.len-periods.ensures ∙ sym c.requires.horizon

pub add_spells-requires-clause-costs : goal.add_spells-requires-clause-costs
add_spells-requires-clause-costs g c =
    let costs = c.requires.costs in
    let periods = c.len-periods.ensures in
    let same = ap length c.as_slice.ensures ∙ c.spell_costs.ensures.length in
    omega (arith, costs, periods, same)

pub add_spells-requires-clause-room : goal.add_spells-requires-clause-room
add_spells-requires-clause-room g c =
    let room = c.requires.room in
    let periods = c.len-periods.ensures in
    omega (arith, room, periods)
