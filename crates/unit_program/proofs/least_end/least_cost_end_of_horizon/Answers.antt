use Rattle.unit_program.proofs.Common.{arith, thermal_of, cost_at}
use Rattle.unit_program.proofs.Lemmas.{one_more, least_end_of_all, earliest_of_all, no_end_of_all}
use Rattle.unit_program.proofs.least_end.least_cost_end_of_horizon.Goals as goal

pub loop-last-init : goal.loop-last-init
loop-last-init c = record {
  sound = λ r is. cc;
  complete = λ k v low end run. (let from = c.earliest_allowed_last_on_period-last.ensures.no k run in absurd
      (omega arith));
  inside = λ r is. cc;
  earliest = λ r is k low end run. cc;
}

pub loop-last-preserved : goal.loop-last-preserved
loop-last-preserved c =
    let chosen = c.lesser_spell_entry-least.ensures in
    one_more (thermal_of c.args.unit.now) c.args.periods (cost_at c.args.rows.now) c.loop-last.last c.loop-last.least
    c.lesser_spell_entry-least.result c.cost_at_last_on_period.result c.cost_at_last_on_period.ensures
    (c.earliest_allowed_last_on_period-last.ensures.yes c.loop-last.last c.loop-last.auto.last (omega arith))
    c.loop-last.invariant
    chosen.from chosen.old chosen.added chosen.kept

pub returns-clause-some : goal.returns-clause-some
returns-clause-some c = least_end_of_all (thermal_of c.args.unit.now) c.args.periods (cost_at c.args.rows.now)
    c.loop-last.last (omega arith) c.loop-last.least c.loop-last.invariant

pub returns-clause-none : goal.returns-clause-none
returns-clause-none c = no_end_of_all (thermal_of c.args.unit.now) c.args.periods (cost_at c.args.rows.now)
    c.loop-last.last (omega arith) c.loop-last.least c.loop-last.invariant

pub returns-clause-earliest : goal.returns-clause-earliest
returns-clause-earliest c = earliest_of_all (thermal_of c.args.unit.now) c.args.periods (cost_at c.args.rows.now)
    c.loop-last.last (omega arith) c.loop-last.least c.loop-last.invariant
