use Rattle.spell_run.proofs.Common
use Common.{rules, ◌≡◌, ℤ, ◌≤ℤ◌, suc, eqb, to_z, of_z, Some, w64, FitsSigned, to_z-of_z, Reaches, Table, value_of}
use Common.{IsTurn, IsFirst, IsLast, Step, IsOutput, thermal_of, Note, IsCheapest, cap_at, signed}
use Rattle.spell_run.proofs.Lemmas.{output_stored, power_range, before_out, before_rise, before_under, chosen_noted}
use Rattle.spell_run.proofs.backtrack.write_period_and_find_power_before.Goals as goal
use Rattle.spell_run.proofs.backtrack.write_period_and_find_power_before.Goals.{Start}
use Rattle.spell_run.proofs.backtrack.write_period_and_find_power_before.Goals.{After-cheapest_power_before_step-before}

-- the power is one of the step
range : (c : Start) → IsOutput c.args.visit.power ×
    (c.args.visit.power ≤ℤ cap_at (thermal_of c.args.unit.now) (eqb c.args.first (suc c.args.visit.index))
    c.args.visit.stops)
range c =
    let noted = c.requires.noted in
    power_range c.args.unit.now.valid c.args.prices.now.valid c.requires.index c.requires.order noted.1
    c.args.visit.power noted.2.1

stored_out : (c : Start) → IsOutput (to_z w64 (of_z w64 c.args.visit.power))
stored_out c = rw (output_stored (range c).0) (range c).0

-- y is the cheapest power before x by what is noted
abbrev IsNear : Step → Note → ℤ → ℤ → Type 0
IsNear s n x y = (f : Table) (va p w : ℤ) → IsTurn s f n.turn → IsFirst f n.first va → IsLast f n.last →
    value_of f p ≡ Some w → Reaches s.ramp_up s.ramp_down x p → IsCheapest s f x y

near : (s : Step) (n : Note) (x y : ℤ) → FitsSigned w64 x → IsNear s n (to_z w64 (of_z w64 x)) y → IsNear s n x y
near s n x y fits h = simp to_z-of_z at h

near_before : (c : After-cheapest_power_before_step-before) → IsNear c.step_terms_of_period-step.result
    c.args.visit.note
    c.args.visit.power
    c.cheapest_power_before_step-before.result
near_before c = near c.step_terms_of_period-step.result c.args.visit.note c.args.visit.power
    c.cheapest_power_before_step-before.result
    (search rules) c.cheapest_power_before_step-before.ensures

-- the power before is within limits
out : (c : After-cheapest_power_before_step-before) → IsOutput c.cheapest_power_before_step-before.result
out c =
    let noted = c.requires.noted in
    before_out c.args.unit.now.valid c.args.prices.now.valid c.requires.index c.requires.order noted.1
    c.args.visit.power noted.2.1 c.step_terms_of_period-step.ensures.step c.starts_in_period.ensures (near_before c)

pub cheapest_power_before_step-before-requires-clause-power :
    goal.cheapest_power_before_step-before-requires-clause-power
cheapest_power_before_step-before-requires-clause-power c = stored_out
    (goal.at.cheapest_power_before_step-before-requires-clause-power c).Start

pub write_period_with_best_reserve-requires-clause-power : goal.write_period_with_best_reserve-requires-clause-power
write_period_with_best_reserve-requires-clause-power c = stored_out
    (goal.at.write_period_with_best_reserve-requires-clause-power c).Start

pub write_period_with_best_reserve-requires-clause-before : goal.write_period_with_best_reserve-requires-clause-before
write_period_with_best_reserve-requires-clause-before c =
    let before = out (goal.at.write_period_with_best_reserve-requires-clause-before
    c).After-cheapest_power_before_step-before in
    rw (output_stored before) before

pub write_period_with_best_reserve-requires-clause-under : goal.write_period_with_best_reserve-requires-clause-under
write_period_with_best_reserve-requires-clause-under c =
    let at = goal.at.write_period_with_best_reserve-requires-clause-under c in
    let noted = c.requires.noted in
    let under = before_under c.args.unit.now.valid c.args.prices.now.valid c.requires.index c.requires.order noted.1
    c.args.visit.power noted.2.1 c.step_terms_of_period-step.ensures.step c.starts_in_period.ensures
    (near_before at.After-cheapest_power_before_step-before) in
    let e = output_stored (range at.Start).0 in
    omega signed

pub write_period_with_best_reserve-requires-clause-rise : goal.write_period_with_best_reserve-requires-clause-rise
write_period_with_best_reserve-requires-clause-rise c =
    let at = goal.at.write_period_with_best_reserve-requires-clause-rise c in
    let noted = c.requires.noted in
    let rise = before_rise c.args.unit.now.valid c.args.prices.now.valid c.requires.index c.requires.order noted.1
    c.args.visit.power noted.2.1 c.step_terms_of_period-step.ensures.step c.starts_in_period.ensures
    (near_before at.After-cheapest_power_before_step-before) in
    let e = output_stored (range at.Start).0 in
    let h = output_stored (out at.After-cheapest_power_before_step-before) in
    omega signed

pub returns-clause-chosen : goal.returns-clause-chosen
returns-clause-chosen c = λ after v noted there.
    chosen_noted c.args.unit.now.valid c.args.prices.now.valid c.requires.index c.requires.order noted
    c.args.visit.power there c.step_terms_of_period-step.ensures.step c.starts_in_period.ensures
    (near_before (goal.at.returns-clause-chosen c).After-cheapest_power_before_step-before)
    c.write_period_with_best_reserve.ensures.written
