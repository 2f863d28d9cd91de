use Rattle.test_units.proofs.Common.{◌≡◌, ℕ, suc, ◌+◌, ◌-◌, ◌*◌, ◌≤◌, arith, length, ℤ, sym, subst, rules, w64}
use Rattle.test_units.proofs.Common.{FitsSigned, to_z-of_z, MatchOption-at_some, MatchOption-at_none, thermal_of}
use Rattle.test_units.proofs.Common.{prices_of, schedule_of, Found, IsOnFromTo, IsSameOutside, IsWayFrom, spell_first}
use Rattle.test_units.proofs.Common.{IsSpellWithin, HasNoDispatch, IsBestDispatch, IsFirstDispatch}
use Rattle.test_units.proofs.Lemmas.{frontier_begin, whole_of, never_both, charge_of, costs_fit, way_most, way_fits}
use Rattle.test_units.proofs.best.spell_best.Given.{Over}
use Rattle.test_units.proofs.best.spell_best.Goals as goal
use Rattle.test_units.proofs.best.spell_best.Goals.{After-give_back, In-Some}

-- what the way leaves as it was
outside : (g : Over) (c : After-give_back g) →
    IsSameOutside c.args.spell.now.first c.args.spell.now.last (schedule_of c.args.into.now.response)
    (schedule_of c.way_from-found.new.into.response)
outside g c =
    let start = c.requires.spell.start.from_one in
    let next : suc (c.args.spell.now.first - 1) ≡ c.args.spell.now.first = omega (arith, start) in
    subst (λ (k : ℕ). IsSameOutside k c.args.spell.now.last (schedule_of c.args.into.now.response)
    (schedule_of c.way_from-found.new.into.response)) next c.way_from-found.ensures.outside

-- the way from the beginning, within the bounds and on in its periods
way : (g : Over) (c : In-Some g) →
    IsWayFrom (thermal_of c.args.unit.now) (prices_of c.args.prices.now)
    (spell_first c.args.spell.now.started c.args.spell.now.first) (c.args.spell.now.first - 1) c.args.spell.now.last
    (g.S.Shape.function c.beginning.new.home c.in_ok-start.start)
    (schedule_of c.way_from-found.new.into.response) c.in-Some.found.power c.in-Some.found.cost
    × IsSpellWithin (spell_first c.args.spell.now.started c.args.spell.now.first) c.args.spell.now.last
    c.in-Some.found.cost
    × IsOnFromTo (suc (c.args.spell.now.first - 1)) c.args.spell.now.last
    (schedule_of c.way_from-found.new.into.response)
way g c =
    let unit = thermal_of c.args.unit.now in
    let prices = prices_of c.args.prices.now in
    let spell = c.args.spell.now in
    let before = g.S.Shape.function c.beginning.new.home c.in_ok-start.start in
    let d = schedule_of c.way_from-found.new.into.response in
    let first = spell_first spell.started spell.first in
    MatchOption-at_some (HasNoDispatch unit (length prices.energy) first spell.last ×
    (d ≡ schedule_of c.args.into.now.response))
    (λ (found : Found). IsWayFrom unit prices first (spell.first - 1) spell.last before d found.power found.cost ×
    IsSpellWithin first spell.last found.cost × IsOnFromTo (suc (spell.first - 1)) spell.last d)
    c.in-Some.found c.in-Some.is c.in_ok-found.ensures.way

-- what is written is the first dispatch of least cost
whole : (g : Over) (c : In-Some g) → IsBestDispatch (thermal_of c.args.unit.now) (prices_of c.args.prices.now)
    (length c.args.prices.now.energy.items) (spell_first c.args.spell.now.started c.args.spell.now.first)
    c.args.spell.now.last (schedule_of c.way_from-found.new.into.response) c.in-Some.found.cost ×
    IsFirstDispatch (thermal_of c.args.unit.now) (prices_of c.args.prices.now) (length c.args.prices.now.energy.items)
    (spell_first c.args.spell.now.started c.args.spell.now.first) c.args.spell.now.last
    (schedule_of c.way_from-found.new.into.response) c.in-Some.found.cost
whole g c =
    let unit = thermal_of c.args.unit.now in
    let prices = prices_of c.args.prices.now in
    let spell = c.args.spell.now in
    let before = g.S.Shape.function c.beginning.new.home c.in_ok-start.start in
    let d = schedule_of c.way_from-found.new.into.response in
    let first = spell_first spell.started spell.first in
    let front = frontier_begin unit prices (length prices.energy) spell.first spell.started before c.args.unit.now.valid
    c.requires.spell.start c.in_ok-start.ensures.ok in
    whole_of unit prices spell.last before d c.in-Some.found.power c.in-Some.found.cost c.args.unit.now.valid
    c.args.prices.now.valid c.requires.spell.end spell.first spell.started c.requires.spell.start front (way g c).0

pub way_from-found-requires-clause-frontier : goal.way_from-found-requires-clause-frontier
way_from-found-requires-clause-frontier g c =
    frontier_begin (thermal_of c.args.unit.now) (prices_of c.args.prices.now) (length c.args.prices.now.energy.items)
    c.args.spell.now.first c.args.spell.now.started _ c.args.unit.now.valid c.requires.spell.start
    c.in_ok-start.ensures.ok

pub returns-in_err-found-clause-outside : goal.returns-in_err-found-clause-outside
returns-in_err-found-clause-outside g c =
    outside g (goal.at.returns-in_err-found-clause-outside g c).After-give_back

pub returns-in_err-found-clause-frame : goal.returns-in_err-found-clause-frame
returns-in_err-found-clause-frame g c =
    let join = c.frames_join.ensures in
    join _ _ _ _ _ _ c.in_ok-start.ensures.frame
    (join _ _ _ _ _ _ c.way_from-found.ensures.frame c.give_back.ensures.frame)

pub returns-in-Some-clause-least : goal.returns-in-Some-clause-least
returns-in-Some-clause-least g c =
    let fits : FitsSigned w64 c.in-Some.found.cost = search rules in
    subst (λ (z : ℤ). IsBestDispatch (thermal_of c.args.unit.now) (prices_of c.args.prices.now)
    (length c.args.prices.now.energy.items) (spell_first c.args.spell.now.started c.args.spell.now.first)
    c.args.spell.now.last (schedule_of c.way_from-found.new.into.response) z)
    (sym (to_z-of_z w64 c.in-Some.found.cost fits)) (whole g (goal.at.returns-in-Some-clause-least g c).In-Some).0

pub returns-in-Some-clause-first : goal.returns-in-Some-clause-first
returns-in-Some-clause-first g c =
    let fits : FitsSigned w64 c.in-Some.found.cost = search rules in
    subst (λ (z : ℤ). IsFirstDispatch (thermal_of c.args.unit.now) (prices_of c.args.prices.now)
    (length c.args.prices.now.energy.items) (spell_first c.args.spell.now.started c.args.spell.now.first)
    c.args.spell.now.last (schedule_of c.way_from-found.new.into.response) z)
    (sym (to_z-of_z w64 c.in-Some.found.cost fits)) (whole g (goal.at.returns-in-Some-clause-first g c).In-Some).1

pub returns-in-Some-clause-within : goal.returns-in-Some-clause-within
returns-in-Some-clause-within g c =
    let fits : FitsSigned w64 c.in-Some.found.cost = search rules in
    subst (λ (z : ℤ). IsSpellWithin (spell_first c.args.spell.now.started c.args.spell.now.first) c.args.spell.now.last
    z) (sym (to_z-of_z w64 c.in-Some.found.cost fits)) (way g (goal.at.returns-in-Some-clause-within g c).In-Some).1

pub returns-in-Some-clause-on : goal.returns-in-Some-clause-on
returns-in-Some-clause-on g c =
    let start = c.requires.spell.start.from_one in
    let next : suc (c.args.spell.now.first - 1) ≡ c.args.spell.now.first = omega (arith, start) in
    subst (λ (k : ℕ). IsOnFromTo k c.args.spell.now.last (schedule_of c.way_from-found.new.into.response)) next
    (way g (goal.at.returns-in-Some-clause-on g c).In-Some).2

pub returns-in-Some-clause-outside : goal.returns-in-Some-clause-outside
returns-in-Some-clause-outside g c =
    outside g (goal.at.returns-in-Some-clause-outside g c).After-give_back

pub returns-in-Some-clause-frame : goal.returns-in-Some-clause-frame
returns-in-Some-clause-frame g c =
    let join = c.frames_join.ensures in
    join _ _ _ _ _ _ c.in_ok-start.ensures.frame
    (join _ _ _ _ _ _ c.way_from-found.ensures.frame c.give_back.ensures.frame)

pub returns-in-None-clause-outside : goal.returns-in-None-clause-outside
returns-in-None-clause-outside g c =
    outside g (goal.at.returns-in-None-clause-outside g c).After-give_back

pub returns-in-None-clause-least : goal.returns-in-None-clause-least
returns-in-None-clause-least g c =
    (MatchOption-at_none (HasNoDispatch (thermal_of c.args.unit.now) (length c.args.prices.now.energy.items)
    (spell_first c.args.spell.now.started c.args.spell.now.first) c.args.spell.now.last ×
    (schedule_of c.way_from-found.new.into.response ≡ schedule_of c.args.into.now.response)) _ c.in-None.is
    c.in_ok-found.ensures.way).0

pub returns-in-None-clause-none : goal.returns-in-None-clause-none
returns-in-None-clause-none g c =
    λ e. (MatchOption-at_none (HasNoDispatch (thermal_of c.args.unit.now) (length c.args.prices.now.energy.items)
    (spell_first c.args.spell.now.started c.args.spell.now.first) c.args.spell.now.last ×
    (schedule_of c.way_from-found.new.into.response ≡ schedule_of c.args.into.now.response)) _ c.in-None.is
    c.in_ok-found.ensures.way).1

pub returns-in-None-clause-frame : goal.returns-in-None-clause-frame
returns-in-None-clause-frame g c =
    let join = c.frames_join.ensures in
    join _ _ _ _ _ _ c.in_ok-start.ensures.frame
    (join _ _ _ _ _ _ c.way_from-found.ensures.frame c.give_back.ensures.frame)

pub returns-in_err-start-clause-enough : goal.returns-in_err-start-clause-enough
returns-in_err-start-clause-enough g c = λ counts enough.
    let start = c.requires.spell.start.from_one in
    let within = c.requires.spell.start.within in
    let some : 1 ≤ length c.args.prices.now.energy.items = omega (arith, start, within) in
    let charge = charge_of (length c.args.curve.now.blocks.items) (length c.args.unit.now.points.items)
    c.args.unit.now.valid.some_point c.requires.curve.count in
    let fit = costs_fit (length c.args.prices.now.energy.items) (length c.args.unit.now.points.items)
    (length c.args.curve.now.blocks.items + 5) some charge in
    absurd (never_both c.beginning.result _ c.in_err-start.was
    (c.beginning.ensures.sure counts (omega (arith, enough, fit))))

pub returns-in_err-found-clause-enough : goal.returns-in_err-found-clause-enough
returns-in_err-found-clause-enough g c = λ counts enough.
    let start = c.requires.spell.start.from_one in
    let within = c.requires.spell.start.within in
    let some : 1 ≤ length c.args.prices.now.energy.items = omega (arith, start, within) in
    let charge = charge_of (length c.args.curve.now.blocks.items) (length c.args.unit.now.points.items)
    c.args.unit.now.valid.some_point c.requires.curve.count in
    let last = c.requires.spell.end in
    let left = c.args.spell.now.last - (c.args.spell.now.first - 1) in
    let few : left ≤ length c.args.prices.now.energy.items = omega (arith, last) in
    let each = length c.args.curve.now.blocks.items + 5 in
    let begun = c.in_ok-start.ensures.balance counts in
    let one = begun.0 in
    let sum = begun.1 in
    let most = way_most (length c.args.prices.now.energy.items) (length c.args.unit.now.points.items) each some charge
    left few in
    let fit = way_fits (length c.args.prices.now.energy.items) (length c.args.unit.now.points.items) each some charge
    left few in
    absurd (never_both c.way_from-found.result _ c.in_err-found.was
    (c.way_from-found.ensures.sure (1 + length c.args.prices.now.energy.items * each) counts
    (omega (arith, one, most)) (omega (arith, enough, fit, sum))))
