use Rattle.point_pool.proofs.Common.{rules, ◌≡◌, ◌<◌, ◌+◌, ◌-◌, sym, ap, ◌∙◌, subst, arith, to_z, of_z, ◌≤ℤ◌}
use Rattle.point_pool.proofs.Common.{FitsSigned, w64, ints, to_z-of_z, get_or_read, Knot, knot, power, no_slot, walk}
use Rattle.point_pool.proofs.Common.{knots_at}
use Rattle.point_pool.proofs.Lemmas.{IsCellAt, IsCellAt-first, next_read, AreNeighbours, neighbours_read, length-knots}
use Rattle.point_pool.proofs.Lemmas.{IsRun-pair, IsRun-last}
use Rattle.point_pool.proofs.pool.Pool.value_in.Goals as goal
use Rattle.point_pool.proofs.pool.Pool.value_in.Goals.{After-index-slot, After-index-next, After-index}

-- the cell after the one that is read
next_cell : (c : After-index-slot) →
    IsCellAt c.args.self.now.slots.items c.args.head c.args.count c.loop-done.done c.index-slot.result.now.next
next_cell c =
    let slots = c.args.self.now.slots.items in
    let cell = c.loop-done.invariant.here in
    next_read slots c.args.head c.args.count c.loop-done.done c.loop-done.at c.index-slot.result.now c.requires.used
    cell (omega (arith, c.loop-done.auto.done)) c.loop-done-test.true
    (get_or_read slots c.loop-done.at _ cell.inside c.index-slot.ensures no_slot)

-- both are neighbours
two : (c : After-index-next) →
    AreNeighbours (knots_at c.args.self.now.slots.items (walk c.args.self.now.slots.items c.args.head c.args.count))
    c.args.count (c.loop-done.done - 1)
    c.index-slot.result.now.knot c.index-next.result.now.knot
two c =
    let slots = c.args.self.now.slots.items in
    let cell = c.loop-done.invariant.here in
    let some : 0 < c.loop-done.done = omega (arith, c.loop-done.auto.done) in
    let read = get_or_read slots c.loop-done.at _ cell.inside c.index-slot.ensures no_slot in
    let more = next_read slots c.args.head c.args.count c.loop-done.done c.loop-done.at c.index-slot.result.now
    c.requires.used cell some c.loop-done-test.true read in
    neighbours_read slots c.args.head c.args.count c.loop-done.done c.loop-done.at c.index-slot.result.now
    c.index-next.result.now c.requires.used cell some c.loop-done-test.true
    read (get_or_read slots _ _ more.inside c.index-next.ensures no_slot)

-- the last breakpoint
last : (c : After-index) → c.index.result.now.knot ≡ knot
    (knots_at c.args.self.now.slots.items (walk c.args.self.now.slots.items c.args.head c.args.count))
    (c.loop-done.done - 1)
last c =
    let cell = c.loop-done.invariant.here in
    ap (λ s. s.knot) (get_or_read c.args.self.now.slots.items c.loop-done.at _ cell.inside c.index.ensures no_slot) ∙
    sym cell.knot

is_last : (c : After-index) → (c.loop-done.done - 1) + 1 ≡ c.args.count
is_last c = omega (arith, c.loop-done-test.false, c.loop-done.auto.done, c.loop-done.auto.done-end, c.requires.some)

pub index-slot-requires : goal.index-slot-requires
index-slot-requires c = let inside = c.loop-done.invariant.here.inside in
    omega (arith, inside, c.args.self.now.slots.ok.0)

pub index-next-requires : goal.index-next-requires
index-next-requires c =
    let inside = (next_cell (goal.at.index-next-requires c).After-index-slot).inside in
    omega (arith, inside, c.args.self.now.slots.ok.0)

pub loop-done-init : goal.loop-done-init
loop-done-init c =
    record {
      here = IsCellAt-first c.args.self.now.slots.items c.args.head c.args.count c.requires.used c.requires.some;
      passed = λ h. absurd (omega arith);
    }

pub value_at-requires-clause-breaks : goal.value_at-requires-clause-breaks
value_at-requires-clause-breaks c =
    let slots = c.args.self.now.slots.items in
    let n = c.args.count in
    let ks = knots_at slots (walk slots c.args.head n) in
    let run = IsRun-pair ks n (c.loop-done.done - 1) _ _ (length-knots slots c.args.head n)
    (two (goal.at.value_at-requires-clause-breaks c).After-index-next) in
    (c.knots_decide.ensures.runs ks _ _ _ 2 run c.requires.breaks).0

pub returns-then-x-next : goal.returns-then-x-next
returns-then-x-next c =
    let slots = c.args.self.now.slots.items in
    let n = c.args.count in
    let k = c.loop-done.done - 1 in
    let ks = knots_at slots (walk slots c.args.head n) in
    let t = two (goal.at.returns-then-x-next c).After-index-next in
    let e-x : to_z w64 (of_z w64 c.args.x) ≡ c.args.x = to_z-of_z w64 _ c.ranges.x in
    let passed : 0 < k → power ks k ≤ℤ c.args.x = λ h. let p = c.loop-done.invariant.passed (omega arith) in
    omega (arith, ints) in
    let fits : FitsSigned w64 c.index-next.result.now.knot.at = search rules in
    let e-at : to_z w64 (of_z w64 c.index-next.result.now.knot.at) ≡ c.index-next.result.now.knot.at =
    to_z-of_z w64 _ fits in
    let test = c.if-x-next.true in
    let upto : c.args.x ≤ℤ c.index-next.result.now.knot.at = omega (arith, ints) in
    let run = IsRun-pair ks n k _ _ (length-knots slots c.args.head n) t in
    (rw e-x at c.value_at.ensures) ∙ (c.knots_decide.ensures.runs ks _ _ k 2 run c.requires.breaks).1 c.args.x passed
    (λ h. upto)

pub loop-done-preserved : goal.loop-done-preserved
loop-done-preserved c =
    let slots = c.args.self.now.slots.items in
    let done = c.loop-done.done in
    let ks = knots_at slots (walk slots c.args.head c.args.count) in
    let t = two (goal.at.loop-done-preserved c).After-index-next in
    let e-x : to_z w64 (of_z w64 c.args.x) ≡ c.args.x = to_z-of_z w64 _ c.ranges.x in
    let fits : FitsSigned w64 c.index-next.result.now.knot.at = search rules in
    let e-at : to_z w64 (of_z w64 c.index-next.result.now.knot.at) ≡ c.index-next.result.now.knot.at =
    to_z-of_z w64 _ fits in
    let e3 : (done - 1) + 1 ≡ (done + 1) - 1 = omega (arith, c.loop-done.auto.done) in
    let b : c.index-next.result.now.knot.at ≡ power ks ((done + 1) - 1) =
    ap (λ (q : Knot). q.at) t.second ∙ ap (power ks) e3 in
    let test = c.if-x-next.false in
    let e1 : (done + 1) - 1 ≡ done = omega arith in
    record {
      here = subst (λ m. IsCellAt slots c.args.head c.args.count m c.index-slot.result.now.next) (sym e1)
          (next_cell (goal.at.loop-done-preserved c).After-index-slot);
      passed = λ h. rw e-x (omega (arith, ints));
    }

pub index-requires : goal.index-requires
index-requires c = let inside = c.loop-done.invariant.here.inside in omega (arith, inside, c.args.self.now.slots.ok.0)

pub value_at-requires-2-clause-breaks : goal.value_at-requires-2-clause-breaks
value_at-requires-2-clause-breaks c =
    let slots = c.args.self.now.slots.items in
    let n = c.args.count in
    let ks = knots_at slots (walk slots c.args.head n) in
    let at = (goal.at.value_at-requires-2-clause-breaks c).After-index in
    let run = IsRun-last ks n (c.loop-done.done - 1) _ (length-knots slots c.args.head n) (is_last at) (last at) in
    (c.knots_decide.ensures.runs ks _ _ _ 1 run c.requires.breaks).0

pub returns : goal.returns
returns c =
    let slots = c.args.self.now.slots.items in
    let n = c.args.count in
    let k = c.loop-done.done - 1 in
    let at = (goal.at.returns c).After-index in
    let ks = knots_at slots (walk slots c.args.head n) in
    let len = length-knots slots c.args.head n in
    let e-x : to_z w64 (of_z w64 c.args.x) ≡ c.args.x = to_z-of_z w64 _ c.ranges.x in
    let passed : 0 < k → power ks k ≤ℤ c.args.x = λ h. let p = c.loop-done.invariant.passed (omega arith) in
    omega (arith, ints) in
    let run = IsRun-last ks n k _ len (is_last at) (last at) in
    let end = is_last at in
    (rw e-x at c.value_at-2.ensures) ∙ (c.knots_decide.ensures.runs ks _ _ k 1 run c.requires.breaks).1 c.args.x passed
    (λ h. absurd (omega (arith, end, len)))
