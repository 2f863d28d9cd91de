use Rattle.test_units.proofs.Common.{◌≡◌, ℕ, ◌+◌, ◌≤◌, ◌<◌, inl, inr, None, ◌∙◌, arith, length, Option, ℤ, IfSome}
use Rattle.test_units.proofs.Common.{on_ok_weaker, thermal_of, prices_of, entry_of, spell_first, IsSpellAnswer}
use Rattle.test_units.proofs.Common.{IsSpellWithin}
use Rattle.test_units.proofs.Lemmas.{entries_by_last, entries_before, entries_past, frontier_begin, never_both}
use Rattle.test_units.proofs.Lemmas.{charge_of, costs_fit}
use Rattle.test_units.proofs.costs.spell_costs.Goals as goal

pub fill-filled-requires-clause-frontier : goal.fill-filled-requires-clause-frontier
fill-filled-requires-clause-frontier g c =
    frontier_begin (thermal_of c.args.unit.now) (prices_of c.args.prices.now) (length c.args.prices.now.energy.items)
    c.args.first c.args.started _ c.args.unit.now.valid c.requires.start c.in_ok-running.ensures.ok

pub returns-clause-least : goal.returns-clause-least
returns-clause-least g c =
    let unit = thermal_of c.args.unit.now in
    let prices = prices_of c.args.prices.now in
    let first = spell_first c.args.started c.args.first in
    let periods = length c.args.prices.now.energy.items in
    let entries = c.fill-filled.new.into.items in
    on_ok_weaker {Q = (last : ℕ) → c.args.first ≤ last → last ≤ periods →
    IsSpellAnswer unit prices periods first last (entry_of entries last)} _
    (λ each. entries_by_last (λ (last : ℕ) (e : Option ℤ). IsSpellAnswer unit prices periods first last e) c.args.first
    periods entries c.requires.start.from_one (λ k from until. (each k from until).0))
    c.fill-filled.ensures.answers

pub returns-clause-within : goal.returns-clause-within
returns-clause-within g c =
    let first = spell_first c.args.started c.args.first in
    let periods = length c.args.prices.now.energy.items in
    let entries = c.fill-filled.new.into.items in
    on_ok_weaker {Q = (last : ℕ) → c.args.first ≤ last → last ≤ periods →
    IfSome (entry_of entries last) (IsSpellWithin first last)} _
    (λ each. entries_by_last (λ (last : ℕ) (e : Option ℤ). IfSome e (IsSpellWithin first last)) c.args.first periods
    entries c.requires.start.from_one (λ k from until. (each k from until).1))
    c.fill-filled.ensures.answers

pub returns-clause-frame : goal.returns-clause-frame
returns-clause-frame g c =
    let join = c.frames_join.ensures in
    join _ _ _ _ _ _ c.in_ok-running.ensures.frame
    (join _ _ _ _ _ _ c.fill-filled.ensures.frame c.give_back.ensures.frame)

pub returns-in_err-running-clause-enough : goal.returns-in_err-running-clause-enough
returns-in_err-running-clause-enough g c = λ counts enough.
    let start = c.requires.start.from_one in
    let end = c.requires.start.within in
    let some : 1 ≤ length c.args.prices.now.energy.items = omega (arith, start, end) in
    let charge = charge_of (length c.args.curve.now.blocks.items) (length c.args.unit.now.points.items)
    c.args.unit.now.valid.some_point c.requires.curve.count in
    let fit = costs_fit (length c.args.prices.now.energy.items) (length c.args.unit.now.points.items)
    (length c.args.curve.now.blocks.items + 5) some charge in
    absurd (never_both c.beginning.result _ c.in_err-running.was
    (c.beginning.ensures.sure counts (omega (arith, enough, fit))))

pub returns-clause-enough : goal.returns-clause-enough
returns-clause-enough g c = λ counts enough.
    let start = c.requires.start.from_one in
    let end = c.requires.start.within in
    let some : 1 ≤ length c.args.prices.now.energy.items = omega (arith, start, end) in
    let charge = charge_of (length c.args.curve.now.blocks.items) (length c.args.unit.now.points.items)
    c.args.unit.now.valid.some_point c.requires.curve.count in
    let fit = costs_fit (length c.args.prices.now.energy.items) (length c.args.unit.now.points.items)
    (length c.args.curve.now.blocks.items + 5) some charge in
    let begun = c.in_ok-running.ensures.balance counts in
    let one = begun.0 in
    let sum = begun.1 in
    c.fill-filled.ensures.sure counts (omega (arith, one)) (omega (arith, enough, fit, sum))

pub returns-clause-before : goal.returns-clause-before
returns-clause-before g c =
    let entries = c.fill-filled.new.into.items in
    on_ok_weaker {Q = (last : ℕ) → 1 ≤ last → last < c.args.first → entry_of entries last ≡ None} _
    (λ each. entries_before c.args.first c.clear_before.new.into.items entries
    (λ k low. c.fill-filled.ensures.others k (inl low)) c.clear_before.ensures.before)
    c.fill-filled.ensures.answers

pub returns-clause-past : goal.returns-clause-past
returns-clause-past g c =
    let first = c.requires.start.within in
    entries_past (length c.args.prices.now.energy.items) c.args.into.now.items c.fill-filled.new.into.items
    (λ k past. c.fill-filled.ensures.others k (inr past) ∙ c.clear_before.ensures.others k (omega (arith, past, first)))
