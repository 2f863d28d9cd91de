use Rattle.unit_table.proofs.Common.{rules, ◌≡◌, ℕ, suc, ◌+◌, pos, ◌+ℤ◌, ◌≤ℤ◌, Some, length}
use Rattle.unit_table.proofs.Common.{arith, FitsSigned, w64, ints, to_z-of_z, thermal_of, live_at, IsUnder}
use Rattle.unit_table.proofs.Common.{Going, add-one, refl}
use Rattle.unit_table.proofs.Lemmas.{kept_none, still_listed}
use Rattle.unit_table.proofs.Lemmas.{start_undercut, start_beyond, started}
use Rattle.unit_table.proofs.periods.begin_spell_unless_undercut.Goals as goal

pub returns-then-is_any_running_spell_cheaper-clause-stands :
    goal.returns-then-is_any_running_spell_cheaper-clause-stands
returns-then-is_any_running_spell_cheaper-clause-stands c = λ π limits ends here least now.
    let fits_power : FitsSigned w64 c.args.unit.now.min_power = search rules in
    let fits_cost : FitsSigned w64 c.args.entry.now.cost = search rules in
    let found : (f : ℕ) × (r : Going) × (live_at c.args.spells.now f ≡ Some r) × IsUnder
    c.args.unit.now.min_power c.args.entry.now.cost r = simp to_z-of_z at c.if-is_any_running_spell_cheaper.ensures in
    start_undercut (thermal_of c.args.unit.now) π limits ends c.args.index (live_at c.args.spells.now)
    (live_at c.args.spells.now) now
    c.args.entry.now.last c.args.entry.now.cost least found.0 found.1 found.3.0 found.2 found.3.1 found.3.2

pub returns-clause-stands : goal.returns-clause-stands
returns-clause-stands c = λ π limits ends here least now.
    let fits_cost : FitsSigned w64 c.args.entry.now.cost = search rules in
    let begun = c.begin_spell_and_add_to_roster.ensures.begun in
    started (thermal_of c.args.unit.now) π limits ends c.args.index (c.args.index + 1) (omega arith)
    (live_at c.args.spells.now) (live_at c.begin_spell_and_add_to_roster.new.spells) c.args.entry.now.last
    c.args.entry.now.cost begun.0
    begun.1 begun.2 c.begin_spell_and_add_to_roster.ensures.others c.requires.bound least now

pub is_any_running_spell_cheaper-requires-clause-roster : goal.is_any_running_spell_cheaper-requires-clause-roster
is_any_running_spell_cheaper-requires-clause-roster c =
    still_listed (live_at c.args.spells.now) (live_at c.args.spells.now) (suc c.args.index)
    (length c.args.spells.now) c.args.roster.now (omega arith) (λ f off. off) c.requires.roster

pub returns-then-is_any_running_spell_cheaper-clause-roster :
    goal.returns-then-is_any_running_spell_cheaper-clause-roster
returns-then-is_any_running_spell_cheaper-clause-roster c =
    still_listed (live_at c.args.spells.now) (live_at c.args.spells.now) (suc c.args.index)
    (suc (suc c.args.index)) c.args.roster.now (omega arith) (λ f off. off) c.requires.roster

pub begin_spell_and_add_to_roster-requires-clause-roster : goal.begin_spell_and_add_to_roster-requires-clause-roster
begin_spell_and_add_to_roster-requires-clause-roster c = rw add-one c.requires.roster

pub returns-clause-roster : goal.returns-clause-roster
returns-clause-roster c = rw add-one at c.begin_spell_and_add_to_roster.ensures.roster

pub returns-then-is_lesser_cost-clause-stands : goal.returns-then-is_lesser_cost-clause-stands
returns-then-is_lesser_cost-clause-stands c = λ π limits ends here least now.
    let fits_limit : FitsSigned w64 c.args.limit = search rules in
    let fits_cost : FitsSigned w64 c.args.entry.now.cost = search rules in
    let less : (c.args.limit +ℤ pos 1) ≤ℤ c.args.entry.now.cost = simp to_z-of_z at
    (c.is_lesser_cost.ensures c.if-is_lesser_cost.true) in
    start_beyond (thermal_of c.args.unit.now) π limits ends c.args.index (live_at c.args.spells.now)
    (live_at c.args.spells.now) now
    c.args.entry.now.last c.args.entry.now.cost least (omega (arith, ints))

pub returns-then-is_lesser_cost-clause-roster : goal.returns-then-is_lesser_cost-clause-roster
returns-then-is_lesser_cost-clause-roster c =
    still_listed (live_at c.args.spells.now) (live_at c.args.spells.now) (suc c.args.index)
    (suc (suc c.args.index)) c.args.roster.now (omega arith) (λ f off. off) c.requires.roster

pub returns-then-is_any_running_spell_cheaper-clause-kept : goal.returns-then-is_any_running_spell_cheaper-clause-kept
returns-then-is_any_running_spell_cheaper-clause-kept c = kept_none c.args.spells.now

pub returns-then-is_lesser_cost-clause-kept : goal.returns-then-is_lesser_cost-clause-kept
returns-then-is_lesser_cost-clause-kept c = kept_none c.args.spells.now

pub returns-clause-others : goal.returns-clause-others
returns-clause-others c = rw add-one at c.begin_spell_and_add_to_roster.ensures.others

pub returns-then-is_any_running_spell_cheaper-clause-others :
    goal.returns-then-is_any_running_spell_cheaper-clause-others
returns-then-is_any_running_spell_cheaper-clause-others c = λ f other. refl

pub returns-then-is_lesser_cost-clause-others : goal.returns-then-is_lesser_cost-clause-others
returns-then-is_lesser_cost-clause-others c = λ f other. refl
