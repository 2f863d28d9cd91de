use Rattle.test_units.proofs.Common.{rules, ◌≡◌, ℕ, suc, ◌+◌, ◌-◌, ◌*◌, ◌<◌, ◌≤◌, length, [], sym, subst, arith}
use Rattle.test_units.proofs.Common.{MatchOption-at_some, StaysAs, Table, thermal_of, prices_of, schedule_of, Found}
use Rattle.test_units.proofs.Common.{IsOnFromTo, IsSameOutside, IsFrontier, IsWayFrom, spell_first, HasNoDispatch}
use Rattle.test_units.proofs.Common.{IsSpellWithin, IsSmall}
use Rattle.test_units.proofs.Lemmas.{first_from, outside_more, outside_wider, cost_is, stays, kept, small_frontier}
use Rattle.test_units.proofs.Lemmas.{IsPeriod, on_more, found_range, small_period, frontier_next, onward_next}
use Rattle.test_units.proofs.Lemmas.{way_chosen, never_both, next_fits, one_fits, rest_room, rest_enough}
use Rattle.test_units.proofs.best.+way_from.Given.{Over}
use Rattle.test_units.proofs.best.+way_from.Goals as goal
use Rattle.test_units.proofs.best.+way_from.Goals.{In_ok-after, After-give_back, In-Some}

-- the period at the place, and the step over it
period : (g : Over) (t : ℕ) (c : In_ok-after g t) →
    IsPeriod (thermal_of c.args.unit.now) (prices_of c.args.prices.now)
    (spell_first c.args.spell.now.started c.args.spell.now.first) c.args.index c.args.spell.now.last
    c.args.curve.now c.step_in-step.result
    (g.S.Shape.function c.args.home.now c.args.before.now) (g.S.Shape.function c.stepped.new.home c.in_ok-after.after)
period g t c =
    let until = c.requires.until in
    let end = c.requires.spell.end in
    record {
      unit = c.args.unit.now.valid;
      prices = c.args.prices.now.valid;
      curve = c.requires.curve;
      law = c.envelope_is_within_cost_limit.ensures;
      within = omega (arith, until, end);
      from = first_from c.args.spell.now.started c.args.spell.now.first c.args.index c.requires.from;
      step_is = c.step_in-step.ensures.step;
      frontier = c.requires.frontier;
      step = c.in_ok-after.ensures.ok;
    }

-- the shape before, which the shapes after leave as it was
same : (g : Over) (t : ℕ) (c : After-give_back g t) →
    StaysAs g.S.Home.Cells.cell_list g.S.Shape.is_in g.S.Shape.numbers g.S.Shape.function [] c.args.home.now
    c.give_back.new.home c.args.before.now
same g t c =
    let join = c.frames_join.ensures in
    let frame = join _ _ _ _ _ _ c.in_ok-after.ensures.frame
    (join _ _ _ _ _ _ c.way_from-found.ensures.frame c.give_back.ensures.frame) in
    stays c.others_stay.ensures c.args.home.now c.give_back.new.home c.args.before.now frame c.requires.here

-- the way on from the next place, within the bounds and on in its periods
later : (g : Over) (t : ℕ) (c : In-Some g t) →
    IsWayFrom (thermal_of c.args.unit.now) (prices_of c.args.prices.now)
    (spell_first c.args.spell.now.started c.args.spell.now.first) (suc c.args.index) c.args.spell.now.last
    (g.S.Shape.function c.stepped.new.home c.in_ok-after.after)
    (schedule_of c.way_from-found.new.into.response) c.in-Some.found.power c.in-Some.found.cost
    × IsSpellWithin (spell_first c.args.spell.now.started c.args.spell.now.first) c.args.spell.now.last
    c.in-Some.found.cost
    × IsOnFromTo (suc (suc c.args.index)) c.args.spell.now.last (schedule_of c.way_from-found.new.into.response)
later g t c =
    let unit = thermal_of c.args.unit.now in
    let prices = prices_of c.args.prices.now in
    let first = spell_first c.args.spell.now.started c.args.spell.now.first in
    let last = c.args.spell.now.last in
    let after = g.S.Shape.function c.stepped.new.home c.in_ok-after.after in
    let d = schedule_of c.way_from-found.new.into.response in
    let next : c.args.index + 1 ≡ suc c.args.index = omega arith in
    subst (λ (t : ℕ). IsWayFrom unit prices first t last after d c.in-Some.found.power c.in-Some.found.cost ×
    IsSpellWithin first last c.in-Some.found.cost × IsOnFromTo (suc t) last d) next
    (MatchOption-at_some (HasNoDispatch unit (length prices.energy) first last ×
    (d ≡ schedule_of c.args.into.now.response))
    (λ (found : Found). IsWayFrom unit prices first (c.args.index + 1) last after d found.power found.cost ×
    IsSpellWithin first last found.cost × IsOnFromTo (suc (c.args.index + 1)) last d) c.in-Some.found c.in-Some.is
    c.in_ok-found.ensures.way)

-- what the way from the next place leaves as it was
outside : (g : Over) (t : ℕ) (c : After-give_back g t) →
    IsSameOutside (suc (suc c.args.index)) c.args.spell.now.last (schedule_of c.args.into.now.response)
    (schedule_of c.way_from-found.new.into.response)
outside g t c =
    let next : c.args.index + 1 ≡ suc c.args.index = omega arith in
    subst (λ (k : ℕ). IsSameOutside (suc k) c.args.spell.now.last (schedule_of c.args.into.now.response)
    (schedule_of c.way_from-found.new.into.response)) next c.way_from-found.ensures.outside

pub stepped-requires-clause-curve : goal.stepped-requires-clause-curve
stepped-requires-clause-curve g t c =
    let until = c.requires.until in
    let end = c.requires.spell.end in
    cost_is _ _ c.step_in-step.ensures.step c.args.unit.now.valid c.args.prices.now.valid (omega (arith, until, end))
    c.requires.curve c.envelope_is_within_cost_limit.ensures

pub stepped-requires-clause-small : goal.stepped-requires-clause-small
stepped-requires-clause-small g t c =
    let horizon = c.args.prices.now.valid.horizon.at_most in
    let until = c.requires.until in
    let end = c.requires.spell.end in
    small_frontier (omega (arith, horizon, until, end)) c.requires.frontier

pub returns-in_err-after-clause-frame : goal.returns-in_err-after-clause-frame
returns-in_err-after-clause-frame g t c =
    kept c.others_stay.ensures c.args.home.now c.stepped.new.home c.args.before.now c.in_err-after.ensures.err_frame
    c.requires.here

pub way_from-found-requires : goal.way_from-found-requires
way_from-found-requires g t c =
    let below : suc c.args.index < c.args.spell.now.last = omega arith in
    let next : suc c.args.index ≡ c.args.index + 1 = omega arith in
    let front =
    subst (λ (t : ℕ). IsFrontier (thermal_of c.args.unit.now) (prices_of c.args.prices.now)
    (spell_first c.args.spell.now.started c.args.spell.now.first) t
    (g.S.Shape.function c.stepped.new.home c.in_ok-after.after)) next
    (frontier_next (period g t (goal.at.way_from-found-requires g t c).In_ok-after) below) in
    search rules

pub returns-in_err-found-clause-here : goal.returns-in_err-found-clause-here
returns-in_err-found-clause-here g t c =
    (same g t (goal.at.returns-in_err-found-clause-here g t c).After-give_back).here

pub returns-in_err-found-clause-frame : goal.returns-in_err-found-clause-frame
returns-in_err-found-clause-frame g t c =
    let join = c.frames_join.ensures in
    let frame = join _ _ _ _ _ _ c.in_ok-after.ensures.frame
    (join _ _ _ _ _ _ c.way_from-found.ensures.frame c.give_back.ensures.frame) in
    kept c.others_stay.ensures c.args.home.now c.give_back.new.home c.args.before.now frame c.requires.here

pub returns-in_err-found-clause-outside : goal.returns-in_err-found-clause-outside
returns-in_err-found-clause-outside g t c =
    outside_wider c.args.index c.args.spell.now.last _ _
    (outside g t (goal.at.returns-in_err-found-clause-outside g t c).After-give_back)

pub choose-requires-clause-here : goal.choose-requires-clause-here
choose-requires-clause-here g t c = (same g t (goal.at.choose-requires-clause-here g t c).After-give_back).here

pub choose-requires-clause-small : goal.choose-requires-clause-small
choose-requires-clause-small g t c =
    let at = goal.at.choose-requires-clause-small g t c in
    subst (λ (f : Table). IsSmall f) (sym (same g t at.After-give_back).function_same)
    (small_period (period g t at.In_ok-after))

pub choose-requires-clause-found : goal.choose-requires-clause-found
choose-requires-clause-found g t c =
    let at = goal.at.choose-requires-clause-found g t c in
    let way = (later g t at.In-Some).0 in
    found_range (period g t at.In_ok-after) c.in-Some.found.power way.before way.there

pub returns-in-Some-clause-way : goal.returns-in-Some-clause-way
returns-in-Some-clause-way g t c =
    let at = goal.at.returns-in-Some-clause-way g t c in
    let p = period g t at.In_ok-after in
    let below : suc c.args.index < c.args.spell.now.last = omega arith in
    let d = schedule_of c.way_from-found.new.into.response in
    let d' = schedule_of c.choose.new.into.response in
    let way = later g t at.In-Some in
    let onward = onward_next p below d c.in-Some.found.power c.in-Some.found.cost way.0 in
    way_chosen p c.requires.until d' onward (same g t at.After-give_back).function_same c.choose.result
    c.choose.ensures.chosen c.choose.ensures.cost (d' ≡ schedule_of c.args.into.now.response) way.1
    (λ q written. on_more written way.2)

pub returns-in-Some-clause-outside : goal.returns-in-Some-clause-outside
returns-in-Some-clause-outside g t c =
    outside_more c.requires.until c.choose.ensures.outside
    (outside g t (goal.at.returns-in-Some-clause-outside g t c).After-give_back)

pub returns-in-Some-clause-frame : goal.returns-in-Some-clause-frame
returns-in-Some-clause-frame g t c =
    let join = c.frames_join.ensures in
    let frame = join _ _ _ _ _ _ c.in_ok-after.ensures.frame
    (join _ _ _ _ _ _ c.way_from-found.ensures.frame c.give_back.ensures.frame) in
    let rest = kept c.others_stay.ensures c.args.home.now c.give_back.new.home c.args.before.now frame
    c.requires.here in
    join _ _ _ _ _ _ rest c.choose.ensures.frame

pub returns-in-None-clause-here : goal.returns-in-None-clause-here
returns-in-None-clause-here g t c = (same g t (goal.at.returns-in-None-clause-here g t c).After-give_back).here

pub returns-in-None-clause-outside : goal.returns-in-None-clause-outside
returns-in-None-clause-outside g t c =
    outside_wider c.args.index c.args.spell.now.last _ _
    (outside g t (goal.at.returns-in-None-clause-outside g t c).After-give_back)

pub returns-in-None-clause-frame : goal.returns-in-None-clause-frame
returns-in-None-clause-frame g t c =
    let join = c.frames_join.ensures in
    let frame = join _ _ _ _ _ _ c.in_ok-after.ensures.frame
    (join _ _ _ _ _ _ c.way_from-found.ensures.frame c.give_back.ensures.frame) in
    kept c.others_stay.ensures c.args.home.now c.give_back.new.home c.args.before.now frame c.requires.here

pub returns-then-index-spell-clause-sure : goal.returns-then-index-spell-clause-sure
returns-then-index-spell-clause-sure g t c = λ most counts room enough.
    let until = c.requires.until in
    let left : 1 ≤ c.args.spell.now.last - c.args.index = omega (arith, until) in
    c.last_period.ensures.sure counts
    (next_fits (c.args.spell.now.last - c.args.index) (length c.args.curve.now.blocks.items + 5) most
    (g.S.Shape.cells c.args.before.now) 0 (g.S.Home.Cells.sure c.args.home.now) 0 left room enough)

pub returns-in_err-after-clause-sure : goal.returns-in_err-after-clause-sure
returns-in_err-after-clause-sure g t c = λ most counts room enough.
    let until = c.requires.until in
    let left : 1 ≤ c.args.spell.now.last - c.args.index = omega (arith, until) in
    absurd (never_both c.stepped.result _ c.in_err-after.was
    (c.stepped.ensures.sure counts
    (next_fits (c.args.spell.now.last - c.args.index) (length c.args.curve.now.blocks.items + 5) most
    (g.S.Shape.cells c.args.before.now) 0 (g.S.Home.Cells.sure c.args.home.now) 0 left room enough)))

pub returns-in_err-found-clause-sure : goal.returns-in_err-found-clause-sure
returns-in_err-found-clause-sure g t c = λ most counts room enough.
    let until = c.requires.until in
    let left : 1 ≤ c.args.spell.now.last - c.args.index = omega (arith, until) in
    let taken = c.in_ok-after.ensures.balance counts in
    let next : (c.args.spell.now.last - c.args.index) - 1 ≡ c.args.spell.now.last - (c.args.index + 1) = omega arith in
    let room' =
    subst (λ (n : ℕ). g.S.Shape.cells c.in_ok-after.after + n * (length c.args.curve.now.blocks.items + 5)
    ≤ most) next (rest_room (c.args.spell.now.last - c.args.index) (length c.args.curve.now.blocks.items + 5)
    most (g.S.Shape.cells c.args.before.now) (g.S.Shape.cells c.in_ok-after.after)
    (g.S.Home.Cells.sure c.args.home.now) (g.S.Home.Cells.sure c.stepped.new.home) left room enough taken.0
    taken.1) in
    let enough' = subst (λ (n : ℕ). n * most ≤ g.S.Home.Cells.sure c.stepped.new.home) next
    (rest_enough (c.args.spell.now.last - c.args.index) (length c.args.curve.now.blocks.items + 5) most
    (g.S.Shape.cells c.args.before.now) (g.S.Shape.cells c.in_ok-after.after)
    (g.S.Home.Cells.sure c.args.home.now) (g.S.Home.Cells.sure c.stepped.new.home) left room enough taken.0
    taken.1) in
    absurd (never_both c.way_from-found.result _ c.in_err-found.was
    (c.way_from-found.ensures.sure most counts room' enough'))

pub returns-in-Some-clause-sure : goal.returns-in-Some-clause-sure
returns-in-Some-clause-sure g t c = λ most counts room enough.
    let until = c.requires.until in
    let left : 1 ≤ c.args.spell.now.last - c.args.index = omega (arith, until) in
    let one = one_fits (c.args.spell.now.last - c.args.index) (length c.args.curve.now.blocks.items + 5) most
    (g.S.Shape.cells c.args.before.now) 0 (g.S.Home.Cells.sure c.args.home.now) 0 left room enough
    (omega arith) in
    let taken = (c.in_ok-after.ensures.balance counts).1 in
    let kept_sum = c.way_from-found.ensures.balance counts in
    let back = c.give_back.ensures.balance counts in
    c.choose.ensures.sure counts (omega (arith, one, taken, kept_sum, back))
