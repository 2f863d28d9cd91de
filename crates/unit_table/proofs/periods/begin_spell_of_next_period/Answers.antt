use Rattle.unit_table.proofs.Common.{rules, ◌≡◌, ℕ, suc, ◌<◌, Some, pos, ◌+ℤ◌, ◌≤ℤ◌, sym, ◌∙◌, arith, refl, ints}
use Rattle.unit_table.proofs.Common.{FitsSigned, slice_get, w64, to_z-of_z, thermal_of, live_at, Origin}
use Rattle.unit_table.proofs.Lemmas.{kept_none, still_listed, none_starts, starts_beyond, entry_beyond}
use Rattle.unit_table.proofs.periods.begin_spell_of_next_period.Goals as goal

pub returns-in-Some-clause-stands : goal.returns-in-Some-clause-stands
returns-in-Some-clause-stands c = λ π limits ends here origins now.
    let fits : FitsSigned w64 c.args.limit = search rules in
    c.begin_spell_unless_undercut.ensures.stands π limits ends (here ∙ sym (to_z-of_z w64 c.args.limit fits))
    (c.in-Some.ensures.some ends origins) now

pub returns-in-None-clause-stands : goal.returns-in-None-clause-stands
returns-in-None-clause-stands c = λ π limits ends here origins now.
    none_starts (thermal_of c.args.unit.now) π limits ends c.args.index (live_at c.args.spells.now)
    (live_at c.args.spells.now) now (λ e. c.in-None.ensures.none ends e origins)

pub returns-in-None-clause-roster : goal.returns-in-None-clause-roster
returns-in-None-clause-roster c =
    still_listed (live_at c.args.spells.now) (live_at c.args.spells.now) (suc c.args.index)
    (suc (suc c.args.index)) c.args.roster.now (omega arith) (λ f off. off) c.requires.roster

pub returns-then-not-has_spell_end_within_cost-clause-stands :
    goal.returns-then-not-has_spell_end_within_cost-clause-stands
returns-then-not-has_spell_end_within_cost-clause-stands c = λ π limits ends here origins now.
    let fits : FitsSigned w64 c.args.limit = search rules in
    let told = simp to_z-of_z at c.if-not-has_spell_end_within_cost.ensures in
    let far : (i : ℕ) (o : Origin) → i < c.args.origins.now.count → slice_get c.args.origins.now.list.items i ≡ Some o →
    (c.args.limit +ℤ pos 1) ≤ℤ o.cost = told refl in
    starts_beyond (thermal_of c.args.unit.now) π limits ends c.args.index (live_at c.args.spells.now)
    (live_at c.args.spells.now) now
    (λ e entry. (let above = entry_beyond (thermal_of c.args.unit.now) ends c.args.index c.args.origins.now
    c.start_costs_are_within.ensures origins
    c.args.unit.now.valid.lags c.args.limit far e entry in omega (arith, ints)))

pub returns-then-not-has_spell_end_within_cost-clause-roster :
    goal.returns-then-not-has_spell_end_within_cost-clause-roster
returns-then-not-has_spell_end_within_cost-clause-roster c =
    still_listed (live_at c.args.spells.now) (live_at c.args.spells.now) (suc c.args.index)
    (suc (suc c.args.index)) c.args.roster.now (omega arith) (λ f off. off) c.requires.roster

pub returns-in-None-clause-kept : goal.returns-in-None-clause-kept
returns-in-None-clause-kept c = kept_none c.args.spells.now

pub returns-then-not-has_spell_end_within_cost-clause-kept : goal.returns-then-not-has_spell_end_within_cost-clause-kept
returns-then-not-has_spell_end_within_cost-clause-kept c = kept_none c.args.spells.now

pub returns-in-None-clause-others : goal.returns-in-None-clause-others
returns-in-None-clause-others c = λ f other. refl

pub returns-then-not-has_spell_end_within_cost-clause-others :
    goal.returns-then-not-has_spell_end_within_cost-clause-others
returns-then-not-has_spell_end_within_cost-clause-others c = λ f other. refl
