use Rattle.slope_list.specs.Slopes.{shown}
use Rattle.spell_run.proofs.Common
use Common.{rules, ◌≡◌, ◌⊎◌, pos, false, suc, true, eqb, ◌<◌, length, sym, ◌∙◌, arith, w64, FitsSigned, MatchOption}
use Common.{lt-ltb, to_z-of_z, IsLeastIn, HasNone, IsTurn, thermal_of, prices_of, int_at, end_cost, cap_at, step_at}
use Rattle.spell_run.proofs.EndLaws.{end_least, end_least_in, end_least_after, end_within, ended_last, ended_alike}
use Rattle.spell_run.proofs.EndLaws.{ended_beside}
use Rattle.spell_run.proofs.Lemmas.{alike_of, range_moved, cost_is, small_frontier, answer_at_end}
use Rattle.spell_run.proofs.Lemmas.{answer_alike, answer_of_step, IsAnswer}
use Rattle.spell_run.proofs.running.advance_spell_and_find_end_cost.Goals as goal
use Rattle.spell_run.proofs.running.advance_spell_and_find_end_cost.Goals.{After-least_value_with_turning_power-end}
use Rattle.spell_run.proofs.running.advance_spell_and_find_end_cost.Goals.{
  After-least_value_with_turning_power-end-then-are_steps_same_but_for_power_range,
}
use Rattle.spell_run.proofs.running.advance_spell_and_find_end_cost.Goals.{After-advance_spell_over_period-note-2}

at_end : (c : After-least_value_with_turning_power-end) →
    IsAnswer (thermal_of c.args.unit.now) (prices_of c.args.prices.now) c.args.passage.first
    c.args.passage.index (end_cost c.least_value_with_turning_power-end.result)
at_end c =
    answer_at_end c.args.unit.now.valid c.args.prices.now.valid c.requires.curve c.envelope_is_within_cost_limit.ensures
    c.requires.index c.requires.order c.advance_spell_over_period-note.ensures.frontier (omega arith)
    (end_cost c.least_value_with_turning_power-end.result)
    (end_least (shown c.advance_spell_over_period-note.new.running) c.least.result _
    c.least_value_with_turning_power-end.result c.least.ensures
    (c.least_value_with_turning_power-end.ensures.none, c.least_value_with_turning_power-end.ensures.some))

pub returns-then-index-len-clause-answer : goal.returns-then-index-len-clause-answer
returns-then-index-len-clause-answer c = (at_end (goal.at.returns-then-index-len-clause-answer
    c).After-least_value_with_turning_power-end).0

pub returns-then-index-len-clause-within : goal.returns-then-index-len-clause-within
returns-then-index-len-clause-within c =
    end_within c.args.passage.first (suc c.args.passage.index) c.least_value_with_turning_power-end.result
    (at_end (goal.at.returns-then-index-len-clause-within c).After-least_value_with_turning_power-end).1

pub returns-then-index-len-clause-ended : goal.returns-then-index-len-clause-ended
returns-then-index-len-clause-ended c =
    let fits : FitsSigned w64 c.advance_spell_over_period-note.result.turn = search rules in
    ended_last c.requires.frontier c.advance_spell_over_period-note.ensures.frontier
    c.advance_spell_over_period-note.ensures.noted
    (omega arith)
    c.least.result _ (to_z-of_z w64 c.advance_spell_over_period-note.result.turn fits) c.least.ensures
    c.least_value_with_turning_power-end.result
    (c.least_value_with_turning_power-end.ensures.none, c.least_value_with_turning_power-end.ensures.some)

-- a stop changes nothing but the range of the power
alike : (c : After-least_value_with_turning_power-end-then-are_steps_same_but_for_power_range) →
    (int_at (prices_of c.args.prices.now).reserve c.args.passage.index ≡ pos 0)
    ⊎ (cap_at (thermal_of c.args.unit.now) (eqb c.args.passage.first (suc c.args.passage.index)) true ≡ cap_at
    (thermal_of c.args.unit.now) (eqb c.args.passage.first (suc c.args.passage.index)) false)
alike c =
    alike_of (thermal_of c.args.unit.now) (prices_of c.args.prices.now) c.args.passage.index
    c.step_terms_of_period-last.ensures.step
    c.starts_in_period-starts.ensures c.step_terms_of_period-on.ensures.step
    c.if-are_steps_same_but_for_power_range.ensures

least : (c : After-least_value_with_turning_power-end-then-are_steps_same_but_for_power_range) → let h = shown
    c.advance_spell_over_period-note-then-are_steps_same_but_for_power_range.new.running in
    let low = (thermal_of c.args.unit.now).min_power in
    let high = (step_at (thermal_of c.args.unit.now) (prices_of c.args.prices.now) c.args.passage.index
    (eqb c.args.passage.first (suc c.args.passage.index)) true).most in
    MatchOption c.least_in.result (HasNone low high h) (λ r. IsLeastIn low high h r.value r.at)
least c =
    let h = shown c.advance_spell_over_period-note-then-are_steps_same_but_for_power_range.new.running in
    range_moved (thermal_of c.args.unit.now) (prices_of c.args.prices.now) c.args.passage.index
    c.step_terms_of_period-last.ensures.step
    c.starts_in_period-starts.ensures c.step_terms_of_period-last.ensures.fair
    (λ lo hi. MatchOption c.least_in.result (HasNone lo hi h) (λ r. IsLeastIn lo hi h r.value r.at)) c.least_in.ensures

at_range : (c : After-least_value_with_turning_power-end-then-are_steps_same_but_for_power_range) → IsAnswer
    (thermal_of c.args.unit.now)
    (prices_of c.args.prices.now) c.args.passage.first c.args.passage.index
    (end_cost c.least_value_with_turning_power-end-then-are_steps_same_but_for_power_range.result)
at_range c =
    answer_alike c.args.unit.now.valid c.args.prices.now.valid c.requires.curve c.envelope_is_within_cost_limit.ensures
    c.requires.index c.requires.order
    c.advance_spell_over_period-note-then-are_steps_same_but_for_power_range.ensures.frontier
    (omega arith) (alike c)
    (end_cost c.least_value_with_turning_power-end-then-are_steps_same_but_for_power_range.result)
    (end_least_in _ _ (shown c.advance_spell_over_period-note-then-are_steps_same_but_for_power_range.new.running)
    c.least_in.result _
    c.least_value_with_turning_power-end-then-are_steps_same_but_for_power_range.result (least c) (
      c.least_value_with_turning_power-end-then-are_steps_same_but_for_power_range.ensures.none,
      c.least_value_with_turning_power-end-then-are_steps_same_but_for_power_range.ensures.some,
    ))

pub returns-then-are_steps_same_but_for_power_range-clause-answer :
    goal.returns-then-are_steps_same_but_for_power_range-clause-answer
returns-then-are_steps_same_but_for_power_range-clause-answer c =
    (at_range (goal.at.returns-then-are_steps_same_but_for_power_range-clause-answer
    c).After-least_value_with_turning_power-end-then-are_steps_same_but_for_power_range).0

pub returns-then-are_steps_same_but_for_power_range-clause-within :
    goal.returns-then-are_steps_same_but_for_power_range-clause-within
returns-then-are_steps_same_but_for_power_range-clause-within c =
    end_within c.args.passage.first (suc c.args.passage.index)
    c.least_value_with_turning_power-end-then-are_steps_same_but_for_power_range.result
    (at_range (goal.at.returns-then-are_steps_same_but_for_power_range-clause-within
    c).After-least_value_with_turning_power-end-then-are_steps_same_but_for_power_range).1

pub returns-then-are_steps_same_but_for_power_range-clause-ended :
    goal.returns-then-are_steps_same_but_for_power_range-clause-ended
returns-then-are_steps_same_but_for_power_range-clause-ended c =
    let at = (goal.at.returns-then-are_steps_same_but_for_power_range-clause-ended
    c).After-least_value_with_turning_power-end-then-are_steps_same_but_for_power_range in
    let price = (c.args.prices.now.valid.reserve c.args.passage.index (pos 0) (omega arith)).at_least in
    let fits : FitsSigned w64 c.advance_spell_over_period-note-then-are_steps_same_but_for_power_range.result.turn =
    search rules in
    ended_alike c.requires.frontier
    c.advance_spell_over_period-note-then-are_steps_same_but_for_power_range.ensures.frontier
    c.advance_spell_over_period-note-then-are_steps_same_but_for_power_range.ensures.noted (omega arith)
    c.args.unit.now.valid price
    (alike at) c.least_in.result _
    (to_z-of_z w64 c.advance_spell_over_period-note-then-are_steps_same_but_for_power_range.result.turn fits) (least at)
    c.least_value_with_turning_power-end-then-are_steps_same_but_for_power_range.result (
      c.least_value_with_turning_power-end-then-are_steps_same_but_for_power_range.ensures.none,
      c.least_value_with_turning_power-end-then-are_steps_same_but_for_power_range.ensures.some,
    )

pub least_value_if_stepped-end-requires-clause-curve : goal.least_value_if_stepped-end-requires-clause-curve
least_value_if_stepped-end-requires-clause-curve c =
    cost_is c.starts_in_period-starts.result true c.step_terms_of_period-last.ensures.step c.args.unit.now.valid
    c.args.prices.now.valid
    c.requires.index c.requires.curve c.envelope_is_within_cost_limit.ensures

pub least_value_if_stepped-end-requires-clause-small : goal.least_value_if_stepped-end-requires-clause-small
least_value_if_stepped-end-requires-clause-small c = small_frontier (omega arith) c.requires.frontier

pub advance_spell_over_period-note-requires-2-clause-room : goal.advance_spell_over_period-note-requires-2-clause-room
advance_spell_over_period-note-requires-2-clause-room c =
    record { fits = c.requires.room.fits; alike = c.least_value_if_stepped-end.ensures.spare ∙ c.requires.room.alike }

by_step : (c : After-advance_spell_over_period-note-2) →
    IsAnswer (thermal_of c.args.unit.now) (prices_of c.args.prices.now) c.args.passage.first
    c.args.passage.index (end_cost c.least_value_if_stepped-end.result)
by_step c =
    let before : suc c.args.passage.index < length c.args.prices.now.energy.items = omega arith in
    let found = c.least_value_if_stepped-end.ensures.least in
    answer_of_step c.args.unit.now.valid c.args.prices.now.valid c.requires.curve
    c.envelope_is_within_cost_limit.ensures
    c.requires.index c.requires.order c.requires.frontier
    (sym (lt-ltb (suc c.args.passage.index) (length c.args.prices.now.energy.items) before))
    (rw (c.step_terms_of_period-last.ensures.step, c.starts_in_period-starts.ensures) at found.1)
    (end_cost c.least_value_if_stepped-end.result)
    (end_least_after found.0 (λ r. IsTurn c.step_terms_of_period-last.result (shown c.args.running.now) r.turn)
    c.least_value_if_stepped-end.result found.2)

pub returns-clause-answer : goal.returns-clause-answer
returns-clause-answer c = (by_step (goal.at.returns-clause-answer c).After-advance_spell_over_period-note-2).0

pub returns-clause-within : goal.returns-clause-within
returns-clause-within c = end_within c.args.passage.first (suc c.args.passage.index) c.least_value_if_stepped-end.result
    (by_step (goal.at.returns-clause-within c).After-advance_spell_over_period-note-2).1

pub returns-clause-ended : goal.returns-clause-ended
returns-clause-ended c =
    let found = c.least_value_if_stepped-end.ensures.least in
    let price = (c.args.prices.now.valid.reserve c.args.passage.index (pos 0) (omega arith)).at_least in
    ended_beside c.requires.frontier c.advance_spell_over_period-note-2.ensures.frontier
    c.advance_spell_over_period-note-2.ensures.noted (omega arith) c.args.unit.now.valid price
    c.requires.curve (rw (c.step_terms_of_period-last.ensures.step, c.starts_in_period-starts.ensures) at found.1)
    c.least_value_if_stepped-end.result (rw (
      c.step_terms_of_period-last.ensures.step,
      c.starts_in_period-starts.ensures,
    ) at found.2)

pub returns-clause-grown : goal.returns-clause-grown
returns-clause-grown c =
    let grown = c.advance_spell_over_period-note-2.ensures.grown in
    record { count = grown.count; room = grown.room; space = grown.space ∙ c.least_value_if_stepped-end.ensures.spare }
