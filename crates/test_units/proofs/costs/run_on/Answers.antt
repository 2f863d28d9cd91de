use Rattle.test_units.proofs.Common.{false, suc, arith, on_ok_weaker, thermal_of, prices_of, IsFrontier, spell_first}
use Rattle.test_units.proofs.Lemmas.{cost_is, small_frontier, frontier_more}
use Rattle.test_units.proofs.costs.run_on.Goals as goal

pub take_step-requires-clause-curve : goal.take_step-requires-clause-curve
take_step-requires-clause-curve g c =
    cost_is c.starts_at-starts.result false c.step_terms_of_period.ensures.step c.args.unit.now.valid
    c.args.prices.now.valid
    c.requires.index c.requires.curve c.envelope_is_within_cost_limit.ensures

pub take_step-requires-clause-small : goal.take_step-requires-clause-small
take_step-requires-clause-small g c =
    let horizon = c.args.prices.now.valid.horizon.at_most in
    let index = c.requires.index in
    small_frontier (omega (arith, horizon, index)) c.requires.frontier

pub returns-clause-ok : goal.returns-clause-ok
returns-clause-ok g c =
    let unit = thermal_of c.args.unit.now in
    let prices = prices_of c.args.prices.now in
    let first = spell_first c.args.started c.args.first in
    let before = g.S.Shape.function c.args.home.now c.args.running.now in
    let after = g.S.Shape.function c.take_step.new.home c.take_step.new.shape in
    on_ok_weaker {Q = IsFrontier unit prices first (suc c.args.index) after} _
    (λ step.
    frontier_more c.args.unit.now.valid c.args.prices.now.valid c.requires.curve c.envelope_is_within_cost_limit.ensures
    c.requires.index c.requires.order c.requires.frontier
    (rw (c.step_terms_of_period.ensures.step, c.starts_at-starts.ensures) at step))
    c.take_step.ensures.ok
