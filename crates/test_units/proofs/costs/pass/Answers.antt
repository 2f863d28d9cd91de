use Rattle.test_units.proofs.Common.{◌≡◌, suc, eqb, ◌<◌, length, sym, subst, arith, Table, thermal_of}
use Rattle.test_units.proofs.Common.{prices_of, IsFrontier, spell_first}
use Rattle.test_units.proofs.Lemmas.{never_both, alike_of, range_of, stays, kept, answer_at_end, answer_alike}
use Rattle.test_units.proofs.costs.pass.Goals as goal

pub returns-then-index-len-clause-answer : goal.returns-then-index-len-clause-answer
returns-then-index-len-clause-answer g c =
    let end : suc c.args.index ≡ length c.args.prices.now.energy.items = omega arith in
    answer_at_end c.args.unit.now.valid c.args.prices.now.valid c.requires.curve c.envelope_is_within_cost_limit.ensures
    c.requires.index c.requires.order c.in_ok-run_on.ensures.ok end c.least_cost.result c.least_cost.ensures

pub returns-then-are_steps_same_but_for_power_range-clause-answer :
    goal.returns-then-are_steps_same_but_for_power_range-clause-answer
returns-then-are_steps_same_but_for_power_range-clause-answer g c =
    let unit = thermal_of c.args.unit.now in
    let prices = prices_of c.args.prices.now in
    let first = spell_first c.args.started c.args.first in
    let index = c.args.index in
    let before : suc index < length c.args.prices.now.energy.items = omega arith in
    let after = g.S.Shape.function c.run_on-then-are_steps_same_but_for_power_range.new.home
    c.run_on-then-are_steps_same_but_for_power_range.new.running in
    let starts = c.starts_at-starts.result in
    let alike = alike_of unit prices index c.step_terms_of_period-last.ensures.step c.starts_at-starts.ensures
    c.step_terms_of_period-on.ensures.step c.if-are_steps_same_but_for_power_range.ensures in
    let least = range_of unit prices index starts (eqb first (suc index)) c.step_terms_of_period-last.result
    c.step_terms_of_period-last.ensures.step c.starts_at-starts.ensures c.step_terms_of_period-last.ensures.fair after
    c.least_cost_in.result c.least_cost_in.ensures in
    answer_alike c.args.unit.now.valid c.args.prices.now.valid c.requires.curve c.envelope_is_within_cost_limit.ensures
    c.requires.index c.requires.order c.in_ok-run_on-2.ensures.ok before alike c.least_cost_in.result least

pub returns-in_err-cost-clause-frame : goal.returns-in_err-cost-clause-frame
returns-in_err-cost-clause-frame g c =
    kept c.others_stay.ensures c.args.home.now c.cost_to_stop.new.home c.args.running.now c.cost_to_stop.ensures.frame
    c.requires.here

pub run_on-requires-2-clause-frontier : goal.run_on-requires-2-clause-frontier
run_on-requires-2-clause-frontier g c =
    let same = stays c.others_stay.ensures c.args.home.now c.cost_to_stop.new.home c.args.running.now
    c.cost_to_stop.ensures.frame c.requires.here in
    subst (λ (f : Table). IsFrontier (thermal_of c.args.unit.now) (prices_of c.args.prices.now)
    (spell_first c.args.started c.args.first) c.args.index f) (sym same.function_same) c.requires.frontier

pub returns-in_err-run_on-3-clause-frame : goal.returns-in_err-run_on-3-clause-frame
returns-in_err-run_on-3-clause-frame g c =
    let rest = kept c.others_stay.ensures c.args.home.now c.cost_to_stop.new.home c.args.running.now
    c.cost_to_stop.ensures.frame c.requires.here in
    c.frames_join.ensures _ _ _ _ _ _ rest c.run_on-2.ensures.frame

pub returns-clause-frame : goal.returns-clause-frame
returns-clause-frame g c =
    let rest = kept c.others_stay.ensures c.args.home.now c.cost_to_stop.new.home c.args.running.now
    c.cost_to_stop.ensures.frame c.requires.here in
    c.frames_join.ensures _ _ _ _ _ _ rest c.run_on-2.ensures.frame

pub returns-in_err-run_on-clause-sure : goal.returns-in_err-run_on-clause-sure
returns-in_err-run_on-clause-sure g c = λ counts enough. absurd
    (never_both c.run_on.result _ c.in_err-run_on.was (c.run_on.ensures.sure counts (omega (arith, enough))))

pub returns-in_err-run_on-2-clause-sure : goal.returns-in_err-run_on-2-clause-sure
returns-in_err-run_on-2-clause-sure g c =
    λ counts enough. absurd (never_both c.run_on-then-are_steps_same_but_for_power_range.result _ c.in_err-run_on-2.was
    (c.run_on-then-are_steps_same_but_for_power_range.ensures.sure counts (omega (arith, enough))))

pub returns-in_err-cost-clause-sure : goal.returns-in_err-cost-clause-sure
returns-in_err-cost-clause-sure g c = λ counts enough. absurd
    (never_both c.cost_to_stop.result _ c.in_err-cost.was (c.cost_to_stop.ensures.sure counts enough))

pub returns-in_err-run_on-3-clause-sure : goal.returns-in_err-run_on-3-clause-sure
returns-in_err-run_on-3-clause-sure g c =
    λ counts enough. absurd (never_both c.run_on-2.result _ c.in_err-run_on-3.was
    (c.run_on-2.ensures.sure counts (omega (arith, enough, c.cost_to_stop.ensures.balance counts))))

pub returns-in_err-run_on-3-clause-balance : goal.returns-in_err-run_on-3-clause-balance
returns-in_err-run_on-3-clause-balance g c = record {
  most = c.run_on-2.ensures.balance.most;
  sum = λ counts. omega (arith, c.run_on-2.ensures.balance.sum counts, c.cost_to_stop.ensures.balance counts);
}

pub returns-clause-balance : goal.returns-clause-balance
returns-clause-balance g c = record {
  most = c.run_on-2.ensures.balance.most;
  sum = λ counts. omega (arith, c.run_on-2.ensures.balance.sum counts, c.cost_to_stop.ensures.balance counts);
}
