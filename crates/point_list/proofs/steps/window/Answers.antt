use Rattle.point_list.proofs.Common.{◌≡◌, ℕ, ◌<◌, List, ◌++◌, length, take, drop, sym, ap, ◌∙◌, arith, to_z, of_z, w64}
use Rattle.point_list.proofs.Common.{to_z-of_z, Knot, knot}
use Rattle.point_list.proofs.ListLaws.{written_back, cut_back, IsKept, breaks, kept_breaks, moved}
use Rattle.point_list.proofs.steps.window.Goals as goal
use Rattle.point_list.proofs.steps.window.Goals.{After-deref_mut, After-truncate}

-- the list with room begins with the breakpoints
begins : (c : After-deref_mut) → (k : ℕ) → k < length c.args.knots.now.items →
    knot c.deref_mut.result.now k ≡ knot c.args.knots.now.items k
begins c k h = ap (λ (l : List Knot). knot l k) c.deref_mut.ensures.value ∙ c.in_ok-used.ensures.same k h

-- what is kept of the list is what the step left
kept : (c : After-truncate) → IsKept c.window_step-left.new.knots c.truncate.new.self.items c.window_step-left.result
kept c =
    let k2 = c.window_step-left.new.knots in
    let made = c.make_room.new.knots in
    let whole : made.len ≡ length made.items = made.ok.0 in
    let used = c.in_ok-used.ensures.used in
    let room = c.in_ok-used.ensures.room in
    let long : length k2 ≡ made.len = c.window_step-left.auto.knots ∙ c.deref_mut.ensures.len in
    let charge = c.window_step-left.ensures.charge in
    let fits = c.in_ok-used.ensures.count in
    let cut = c.truncate.ensures.len in
    record {
      len = sym c.truncate.new.self.ok.0 ∙ omega arith;
      count = omega arith;
      after = λ k h. ap (λ (l : List Knot). knot l k) c.truncate.ensures.items ∙
          cut_back (take made.len (k2 ++ drop (length k2) made.items)) c.window_step-left.result k h
          ∙ written_back k2 made.items made.len k (omega arith) (omega arith);
    }

pub window_step-left-requires-clause-breaks : goal.window_step-left-requires-clause-breaks
window_step-left-requires-clause-breaks c =
    breaks c.knots_decide.ensures.same c.args.knots.now.items c.deref_mut.result.now c.in_ok-used.used c.requires.breaks
    c.in_ok-used.ensures.used (begins (goal.at.window_step-left-requires-clause-breaks c).After-deref_mut)

pub returns-clause-ok : goal.returns-clause-ok
returns-clause-ok c =
    let e-up : to_z w64 (of_z w64 c.args.up) ≡ c.args.up = to_z-of_z w64 _ c.ranges.up in
    let e-down : to_z w64 (of_z w64 c.args.down) ≡ c.args.down = to_z-of_z w64 _ c.ranges.down in
    let e-lo : to_z w64 (of_z w64 c.args.lo) ≡ c.args.lo = to_z-of_z w64 _ c.ranges.lo in
    let e-hi : to_z w64 (of_z w64 c.args.hi) ≡ c.args.hi = to_z-of_z w64 _ c.ranges.hi in
    moved c.knots_decide.ensures.same c.args.knots.now.items c.deref_mut.result.now c.in_ok-used.used c.requires.breaks
    c.in_ok-used.ensures.used (begins (goal.at.returns-clause-ok c).After-deref_mut)
    c.window_step-left.new.knots c.truncate.new.self.items c.window_step-left.result c.window_step-left.ensures.breaks
    (kept (goal.at.returns-clause-ok c).After-truncate)
    c.operations_depend_on_values_alone.ensures.window c.args.up c.args.down c.args.lo c.args.hi
    (rw (e-up, e-down, e-lo, e-hi) at c.window_step-left.ensures.window)

pub returns-clause-breaks : goal.returns-clause-breaks
returns-clause-breaks c =
    kept_breaks c.knots_decide.ensures.same c.args.knots.now.items c.deref_mut.result.now c.in_ok-used.used
    c.requires.breaks c.in_ok-used.ensures.used (begins (goal.at.returns-clause-breaks c).After-deref_mut)
    c.window_step-left.new.knots c.truncate.new.self.items c.window_step-left.result c.window_step-left.ensures.breaks
    (kept (goal.at.returns-clause-breaks c).After-truncate)
