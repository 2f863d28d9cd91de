use Rattle.test_units.proofs.Common.{true, suc, Option, ℤ, length, sym, arith, ◌<◌, lt-ltb, IfOk-weaker, Table}
use Rattle.test_units.proofs.Common.{thermal_of, prices_of, spell_first, IsSpellCost, IsStepped}
use Rattle.test_units.proofs.Common.{IsLeastCost}
use Rattle.test_units.proofs.Lemmas.{cost_is, small_frontier, answer_of_step}
use Rattle.test_units.proofs.costs.cost_to_stop.Goals as goal

pub cost_after-requires-clause-curve : goal.cost_after-requires-clause-curve
cost_after-requires-clause-curve g c =
    let index = c.requires.index in
    cost_is c.starts_at-starts.result true c.step_terms_of_period.ensures.step c.args.unit.now.valid
    c.args.prices.now.valid
    (omega (arith, index)) c.requires.curve c.envelope_is_within_cost_limit.ensures

pub cost_after-requires-clause-small : goal.cost_after-requires-clause-small
cost_after-requires-clause-small g c =
    let horizon = c.args.prices.now.valid.horizon.at_most in
    let index = c.requires.index in
    small_frontier (omega (arith, horizon, index)) c.requires.frontier

pub returns-clause-answer : goal.returns-clause-answer
returns-clause-answer g c =
    let unit = thermal_of c.args.unit.now in
    let prices = prices_of c.args.prices.now in
    let first = spell_first c.args.started c.args.first in
    let before = g.S.Shape.function c.args.home.now c.args.running.now in
    let index = c.requires.index in
    let within : c.args.index < length prices.energy = omega (arith, index) in
    IfOk-weaker c.cost_after.result (λ (cost : Option ℤ). (after : Table) ×
    IsStepped c.step_terms_of_period.result c.args.curve.now before after × IsLeastCost after cost)
    (IsSpellCost unit prices first (suc c.args.index))
    (λ cost found.
    answer_of_step c.args.unit.now.valid c.args.prices.now.valid c.requires.curve
    c.envelope_is_within_cost_limit.ensures within
    c.requires.order c.requires.frontier
    (sym (lt-ltb (suc c.args.index) (length prices.energy) index))
    (rw (c.step_terms_of_period.ensures.step, c.starts_at-starts.ensures) at found.1) cost found.2)
    c.cost_after.ensures.ok
