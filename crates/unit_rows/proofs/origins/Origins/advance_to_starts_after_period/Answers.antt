use Rattle.unit_rows.proofs.Common.{◌≡◌, ◌+◌, ◌<◌, ℕ, suc, Some, refl, subst, arith, slice_get, thermal_of}
use Rattle.unit_rows.proofs.Common.{Origin, IsRipe, AreRight, cost_at}
use Rattle.unit_rows.proofs.Lemmas.{right_more, ripe_later, ripe_or_there, cleared}
use Rattle.unit_rows.proofs.origins.Origins.advance_to_starts_after_period.Goals as goal

pub returns-then-must_be_on-clause-origins : goal.returns-then-must_be_on-clause-origins
returns-then-must_be_on-clause-origins c =
    cleared (thermal_of c.args.unit.now) c.args.unit.now.valid (cost_at c.args.rows.now) c.args.index c.args.self.now
    c.requires.origins _ refl (omega arith) refl (c.must_be_on.ensures.yes c.if-must_be_on.true)

pub insert_spell_end_with_min_down_met-requires-clause-right :
    goal.insert_spell_end_with_min_down_met-requires-clause-right
insert_spell_end_with_min_down_met-requires-clause-right c =
    let u = thermal_of c.args.unit.now in
    let ends = cost_at c.args.rows.now in
    let free = c.must_be_on.ensures.no c.if-must_be_on.false in
    let next : suc c.args.index ≡ c.args.index + 1 = omega arith in
    subst (λ (k : ℕ). AreRight u ends k c.args.self.now) next
    (right_more u c.args.unit.now.valid ends c.args.index c.args.self.now c.requires.origins free.0 free.1)

pub insert_spell_end_with_min_down_met-requires-clause-earlier :
    goal.insert_spell_end_with_min_down_met-requires-clause-earlier
insert_spell_end_with_min_down_met-requires-clause-earlier c =
    let u = thermal_of c.args.unit.now in
    let free = c.must_be_on.ensures.no c.if-must_be_on.false in
    let next : suc c.args.index ≡ c.args.index + 1 = omega arith in
    subst (λ (k : ℕ). (i last : ℕ) (o : Origin) → i < c.args.self.now.count →
    slice_get c.args.self.now.list.items i ≡ Some o → IsRipe u k last → o.last < last) next
    (ripe_later u c.args.unit.now.valid (cost_at c.args.rows.now) c.args.index c.args.self.now c.requires.origins free.0
    free.1)

pub insert_spell_end_with_min_down_met-requires-clause-others :
    goal.insert_spell_end_with_min_down_met-requires-clause-others
insert_spell_end_with_min_down_met-requires-clause-others c =
    let u = thermal_of c.args.unit.now in
    let ends = cost_at c.args.rows.now in
    let free = c.must_be_on.ensures.no c.if-must_be_on.false in
    let next : suc c.args.index ≡ c.args.index + 1 = omega arith in
    rw next at (ripe_or_there u c.args.unit.now.valid ends c.args.index c.args.self.now c.requires.origins free.0
    free.1)
