use Rattle.slope_list.specs.Slopes.{shown}
use Rattle.spell_run.proofs.Common.{false, arith, rules, FitsSigned, w64, thermal_of}
use Rattle.spell_run.proofs.Common.{prices_of, to_z-of_z, Note, IsNoted}
use Rattle.spell_run.proofs.Lemmas.{cost_is, small_frontier, frontier_more}
use Rattle.spell_run.proofs.running.advance_spell_over_period.Goals as goal

pub step-requires-clause-curve : goal.step-requires-clause-curve
step-requires-clause-curve c =
    cost_is c.starts_in_period-starts.result false c.step_terms_of_period.ensures.step c.args.unit.now.valid
    c.args.prices.now.valid
    c.requires.index c.requires.curve c.envelope_is_within_cost_limit.ensures

pub step-requires-clause-small : goal.step-requires-clause-small
step-requires-clause-small c = small_frontier (omega arith) c.requires.frontier

pub returns-clause-frontier : goal.returns-clause-frontier
returns-clause-frontier c =
    frontier_more c.args.unit.now.valid c.args.prices.now.valid c.requires.curve c.envelope_is_within_cost_limit.ensures
    c.requires.index c.requires.order c.requires.frontier
    (rw (c.step_terms_of_period.ensures.step, c.starts_in_period-starts.ensures) at c.step.ensures.stepped)

pub returns-clause-noted : goal.returns-clause-noted
returns-clause-noted c = λ x v there.
    let fits_turn : FitsSigned w64 c.turn.result = search rules in
    let fits_first : FitsSigned w64 c.power_interval-before.result.first = search rules in
    let fits_last : FitsSigned w64 c.power_interval-before.result.last = search rules in
    let turn = rw (c.step_terms_of_period.ensures.step, c.starts_in_period-starts.ensures, ← c.turn.ensures) at
    (c.step.ensures.turn x v there) in
    let first = c.power_interval-before.ensures.first x v there in
    let n : Note = record {
      turn = c.turn.result;
      first = c.power_interval-before.result.first;
      last = c.power_interval-before.result.last;
    } in
    let here : IsNoted (thermal_of c.args.unit.now) (prices_of c.args.prices.now) c.args.passage.first
    c.args.passage.index false n
    (shown c.step.new.self) = record {
      curve = c.args.curve.now;
      is_curve = c.requires.curve;
      before = shown c.args.running.now;
      frontier = c.requires.frontier;
      stepped = rw (c.step_terms_of_period.ensures.step, c.starts_in_period-starts.ensures) at c.step.ensures.stepped;
      turn = turn;
      value = first.0;
      begins = first.1;
      ends = c.power_interval-before.ensures.last x v there;
    } in
    simp to_z-of_z here
