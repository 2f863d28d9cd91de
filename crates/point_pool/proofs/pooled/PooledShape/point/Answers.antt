use Rattle.point_pool.proofs.Common.{◌≡◌, true, List, [], ◌∷◌, refl, sym, subst, to_z, of_z, w64, to_z-of_z, IsPoint}
use Rattle.point_pool.proofs.Common.{Knot, function_of, IsBreakList, Stored}
use Rattle.point_pool.proofs.Lemmas.{Frame-changes, changes_stored, stored_none, stored_more}
use Rattle.point_pool.proofs.pooled.PooledShape.point.Goals as goal
use Rattle.point_pool.proofs.pooled.PooledShape.point.Goals.{After-take-head}

abbrev knot_of : After-take-head → Knot
knot_of c = record { at = c.args.at; value = c.args.value }

stored : (c : After-take-head) →
    Stored c.args.home.now.slots.items c.take-head.new.self.slots.items (c.take-head.result ∷ []) (knot_of c ∷ [])
stored c =
    let slots = c.args.home.now.slots.items in
    let e-at : to_z w64 (of_z w64 c.args.at) ≡ c.args.at = to_z-of_z w64 _ c.ranges.at in
    let e-value : to_z w64 (of_z w64 c.args.value) ≡ c.args.value = to_z-of_z w64 _ c.ranges.value in
    rw (c.take-head.ensures.slots, e-at, e-value)
    (stored_more slots slots 0 0 c.take-head.result [] _ (stored_none slots) c.take-head.ensures.inside
    c.take-head.ensures.was_free (record { in_use = true; next = 0; knot = knot_of c }) refl refl refl)

pub returns-clause-ok : goal.returns-clause-ok
returns-clause-ok c =
    let s = stored (goal.at.returns-clause-ok c).After-take-head in
    subst (λ (ks : List Knot). IsPoint c.args.at c.args.value (function_of ks)) (sym s.holds)
    (c.knots_decide.ensures.point (record { at = c.args.at; value = c.args.value } ∷ []) c.requires.power
    c.requires.amount).1

pub returns-clause-here : goal.returns-clause-here
returns-clause-here c =
    let s = stored (goal.at.returns-clause-here c).After-take-head in
    record {
      used = s.used;
      breaks = subst IsBreakList (sym s.holds)
          (c.knots_decide.ensures.point (record { at = c.args.at; value = c.args.value } ∷ []) c.requires.power
          c.requires.amount).0;
    }

pub returns-clause-frame : goal.returns-clause-frame
returns-clause-frame c =
    Frame-changes c.args.home.now c.take-head.new.self [] _
    (changes_stored _ _ _ _ (stored (goal.at.returns-clause-frame c).After-take-head))
