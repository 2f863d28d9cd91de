use Rattle.test_units.proofs.Common.{length, thermal_of, prices_of, schedule_of}
use Rattle.test_units.proofs.Lemmas.{written_none, written_answer}
use Rattle.test_units.proofs.answer.write_spell.Goals as goal

pub returns-then-last-eq0-clause-written : goal.returns-then-last-eq0-clause-written
returns-then-last-eq0-clause-written g c =
    written_none (thermal_of c.args.unit.now) (prices_of c.args.prices.now) (length c.args.prices.now.energy.items)
    c.args.first c.args.last (schedule_of c.args.into.now.response) c.requires.order c.if-last-eq0.true

pub returns-clause-written : goal.returns-clause-written
returns-clause-written g c =
    written_answer (thermal_of c.args.unit.now) (prices_of c.args.prices.now) (length c.args.prices.now.energy.items)
    c.args.first c.args.last
    c.max.result (schedule_of c.args.into.now.response) (schedule_of c.spell_best.new.into.response) c.in_ok-_cost._cost
    c.max.ensures c.requires.least
    c.in_ok-_cost.ensures.least c.in_ok-_cost.ensures.first c.in_ok-_cost.ensures.on c.spell_best.ensures.outside
