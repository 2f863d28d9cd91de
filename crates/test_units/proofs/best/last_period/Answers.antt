use Rattle.test_units.proofs.Common.{◌≡◌, [], refl, sym, subst, arith, StaysAs, Table, thermal_of, prices_of}
use Rattle.test_units.proofs.Common.{schedule_of, spell_first, IsSmall}
use Rattle.test_units.proofs.Lemmas.{first_from, cost_is, stays, kept, small_frontier, IsPeriod, on_last, found_range}
use Rattle.test_units.proofs.Lemmas.{small_period, onward_last, none_last, within_last, way_chosen, never_both}
use Rattle.test_units.proofs.best.last_period.Given.{Over}
use Rattle.test_units.proofs.best.last_period.Goals as goal
use Rattle.test_units.proofs.best.last_period.Goals.{In_ok-after, In-Some}

-- the period at the place, and the step over it
period : (g : Over) (c : In_ok-after g) →
    IsPeriod (thermal_of c.args.unit.now) (prices_of c.args.prices.now)
    (spell_first c.args.spell.now.started c.args.spell.now.first) c.args.index c.args.spell.now.last
    c.args.curve.now c.step_in-step.result
    (g.S.Shape.function c.args.home.now c.args.before.now) (g.S.Shape.function c.stepped.new.home c.in_ok-after.after)
period g c =
    let until = c.requires.until in
    let end = c.requires.spell.end in
    record {
      unit = c.args.unit.now.valid;
      prices = c.args.prices.now.valid;
      curve = c.requires.curve;
      law = c.envelope_is_within_cost_limit.ensures;
      within = omega (arith, until, end);
      from = first_from c.args.spell.now.started c.args.spell.now.first c.args.index c.requires.from;
      step_is = c.step_in-step.ensures.step;
      frontier = c.requires.frontier;
      step = c.in_ok-after.ensures.ok;
    }

-- the shape before, which the shape after leaves as it was
same : (g : Over) (c : In-Some g) → StaysAs g.S.Home.Cells.cell_list g.S.Shape.is_in g.S.Shape.numbers
    g.S.Shape.function [] c.args.home.now c.give_back.new.home c.args.before.now
same g c =
    let frame = c.frames_join.ensures _ _ _ _ _ _ c.in_ok-after.ensures.frame c.give_back.ensures.frame in
    stays c.others_stay.ensures c.args.home.now c.give_back.new.home c.args.before.now frame c.requires.here

pub stepped-requires-clause-curve : goal.stepped-requires-clause-curve
stepped-requires-clause-curve g c =
    let until = c.requires.until in
    let end = c.requires.spell.end in
    cost_is _ _ c.step_in-step.ensures.step c.args.unit.now.valid c.args.prices.now.valid (omega (arith, until, end))
    c.requires.curve c.envelope_is_within_cost_limit.ensures

pub stepped-requires-clause-small : goal.stepped-requires-clause-small
stepped-requires-clause-small g c =
    let horizon = c.args.prices.now.valid.horizon.at_most in
    let until = c.requires.until in
    let end = c.requires.spell.end in
    small_frontier (omega (arith, horizon, until, end)) c.requires.frontier

pub returns-in_err-after-clause-frame : goal.returns-in_err-after-clause-frame
returns-in_err-after-clause-frame g c =
    kept c.others_stay.ensures c.args.home.now c.stepped.new.home c.args.before.now c.in_err-after.ensures.err_frame
    c.requires.here

pub choose-requires-clause-here : goal.choose-requires-clause-here
choose-requires-clause-here g c = (same g (goal.at.choose-requires-clause-here g c).In-Some).here

pub choose-requires-clause-small : goal.choose-requires-clause-small
choose-requires-clause-small g c =
    let at = goal.at.choose-requires-clause-small g c in
    subst (λ (f : Table). IsSmall f) (sym (same g at.In-Some).function_same) (small_period (period g at.In_ok-after))

pub choose-requires-clause-found : goal.choose-requires-clause-found
choose-requires-clause-found g c =
    found_range (period g (goal.at.choose-requires-clause-found g c).In_ok-after) c.in-Some.found.power
    c.in-Some.found.cost c.in-Some.ensures.there

pub returns-in-Some-clause-way : goal.returns-in-Some-clause-way
returns-in-Some-clause-way g c =
    let at = goal.at.returns-in-Some-clause-way g c in
    let p = period g at.In_ok-after in
    let until = c.requires.until in
    let d' = schedule_of c.choose.new.into.response in
    let d = schedule_of c.args.into.now.response in
    let onward = onward_last p until d c.in-Some.found.power c.in-Some.found.cost c.in-Some.ensures in
    way_chosen p (omega (arith, until)) d' onward (same g at.In-Some).function_same c.choose.result
    c.choose.ensures.chosen c.choose.ensures.cost (d' ≡ d)
    (within_last p until c.in-Some.found.power c.in-Some.found.cost c.in-Some.ensures)
    (λ q written. on_last until written)

pub returns-in-Some-clause-frame : goal.returns-in-Some-clause-frame
returns-in-Some-clause-frame g c =
    let frame = c.frames_join.ensures _ _ _ _ _ _ c.in_ok-after.ensures.frame c.give_back.ensures.frame in
    let rest = kept c.others_stay.ensures c.args.home.now c.give_back.new.home c.args.before.now frame
    c.requires.here in
    c.frames_join.ensures _ _ _ _ _ _ rest c.choose.ensures.frame

pub returns-in-None-clause-way : goal.returns-in-None-clause-way
returns-in-None-clause-way g c =
    (none_last (period g (goal.at.returns-in-None-clause-way g c).In_ok-after) c.requires.until c.in-None.ensures, refl)

pub returns-in-None-clause-here : goal.returns-in-None-clause-here
returns-in-None-clause-here g c =
    let frame = c.frames_join.ensures _ _ _ _ _ _ c.in_ok-after.ensures.frame c.give_back.ensures.frame in
    (stays c.others_stay.ensures c.args.home.now c.give_back.new.home c.args.before.now frame c.requires.here).here

pub returns-in-None-clause-frame : goal.returns-in-None-clause-frame
returns-in-None-clause-frame g c =
    let frame = c.frames_join.ensures _ _ _ _ _ _ c.in_ok-after.ensures.frame c.give_back.ensures.frame in
    kept c.others_stay.ensures c.args.home.now c.give_back.new.home c.args.before.now frame c.requires.here

pub returns-in_err-after-clause-sure : goal.returns-in_err-after-clause-sure
returns-in_err-after-clause-sure g c =
    λ counts enough. absurd (never_both c.stepped.result _ c.in_err-after.was (c.stepped.ensures.sure counts enough))

pub returns-in-Some-clause-sure : goal.returns-in-Some-clause-sure
returns-in-Some-clause-sure g c = λ counts enough.
    let after = (c.in_ok-after.ensures.balance counts).1 in
    let back = c.give_back.ensures.balance counts in
    c.choose.ensures.sure counts (omega (arith, enough, after, back))
