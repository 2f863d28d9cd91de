use Rattle.unit_table.proofs.Common.{thermal_of, live_at}
use Rattle.unit_table.proofs.Lemmas.{kept_none, none_listed, none_goes_on, one_goes_on}
use Rattle.unit_table.proofs.periods.continue_initial_spell.Goals as goal

pub begin_spell_and_add_to_roster-requires-clause-roster : goal.begin_spell_and_add_to_roster-requires-clause-roster
begin_spell_and_add_to_roster-requires-clause-roster c = none_listed (live_at c.args.spells.now) 0 c.args.roster.now
    c.requires.none
    c.requires.off

pub returns-then-unit-clause-stands : goal.returns-then-unit-clause-stands
returns-then-unit-clause-stands c = λ π limits ends.
    let begun = c.begin_spell_and_add_to_roster.ensures.begun in
    one_goes_on (thermal_of c.args.unit.now) π limits ends (live_at c.args.spells.now) c.requires.off c.if-unit.true
    (live_at c.begin_spell_and_add_to_roster.new.spells) begun.0 begun.1 begun.2
    c.begin_spell_and_add_to_roster.ensures.others

pub returns-else-unit-clause-stands : goal.returns-else-unit-clause-stands
returns-else-unit-clause-stands c = λ π limits ends.
    none_goes_on (thermal_of c.args.unit.now) π limits ends (live_at c.args.spells.now) c.requires.off c.if-unit.false

pub returns-else-unit-clause-roster : goal.returns-else-unit-clause-roster
returns-else-unit-clause-roster c = none_listed (live_at c.args.spells.now) 1 c.args.roster.now c.requires.none
    c.requires.off

pub returns-else-unit-clause-kept : goal.returns-else-unit-clause-kept
returns-else-unit-clause-kept c = kept_none c.args.spells.now
