use Rattle.point_pool.proofs.Common.{rules, ◌≡◌, ◌+◌, ◌-◌, sym, ap, ◌∙◌, subst, arith, to_z, of_z, ◌≤ℤ◌, ◌<ℤ◌}
use Rattle.point_pool.proofs.Common.{FitsSigned, w64, ints, to_z-of_z, get_or_read, Knot, knot, height, no_slot}
use Rattle.point_pool.proofs.Common.{slot_at, walk, knots_at}
use Rattle.point_pool.proofs.Lemmas.{IsCellAt, IsCellAt-first, IsCellAt-next, IsAtTurn-here}
use Rattle.point_pool.proofs.pool.Pool.lowest.Goals as goal

pub index-slot-requires : goal.index-slot-requires
index-slot-requires c = let inside = c.loop-done.invariant.here.inside in
    omega (arith, inside, c.args.self.now.slots.ok.0)

pub index-next-requires : goal.index-next-requires
index-next-requires c =
    let slots = c.args.self.now.slots.items in
    let head = c.args.head in
    let n = c.args.count in
    let done = c.loop-done.done in
    let cell = c.loop-done.invariant.here in
    let read : c.index-slot.result.now ≡ slot_at slots c.loop-done.at =
    get_or_read slots c.loop-done.at _ cell.inside c.index-slot.ensures no_slot in
    let to : c.index-slot.result.now.next ≡ (slot_at slots c.loop-done.at).next = ap (λ s. s.next) read in
    let more : IsCellAt slots head n done c.index-slot.result.now.next =
    subst (λ m. IsCellAt slots head n done m) (sym to)
    (IsCellAt-next slots head n (done - 1) done c.loop-done.at c.requires.used cell
    (omega (arith, c.loop-done.auto.done)) c.loop-done-test.true) in
    let inside = more.inside in
    omega (arith, inside, c.args.self.now.slots.ok.0)

pub loop-done-init : goal.loop-done-init
loop-done-init c =
    record {
      here = IsCellAt-first c.args.self.now.slots.items c.args.head c.args.count c.requires.used c.requires.some;
      falls = λ h. absurd (omega arith);
    }

pub returns-then-slot-next : goal.returns-then-slot-next
returns-then-slot-next c =
    let slots = c.args.self.now.slots.items in
    let head = c.args.head in
    let n = c.args.count in
    let done = c.loop-done.done in
    let cell = c.loop-done.invariant.here in
    let read : c.index-slot.result.now ≡ slot_at slots c.loop-done.at =
    get_or_read slots c.loop-done.at _ cell.inside c.index-slot.ensures no_slot in
    let to : c.index-slot.result.now.next ≡ (slot_at slots c.loop-done.at).next = ap (λ s. s.next) read in
    let more : IsCellAt slots head n done c.index-slot.result.now.next =
    subst (λ m. IsCellAt slots head n done m) (sym to)
    (IsCellAt-next slots head n (done - 1) done c.loop-done.at c.requires.used cell
    (omega (arith, c.loop-done.auto.done)) c.loop-done-test.true) in
    let ks = knots_at slots (walk slots head n) in
    let read-next : c.index-next.result.now ≡ slot_at slots c.index-slot.result.now.next =
    get_or_read slots _ _ more.inside c.index-next.ensures no_slot in
    let here : knot ks (done - 1) ≡ c.index-slot.result.now.knot = cell.knot ∙ ap (λ s. s.knot) (sym read) in
    let there : knot ks done ≡ c.index-next.result.now.knot = more.knot ∙ ap (λ s. s.knot) (sym read-next) in
    let e1 : (done + 1) - 1 ≡ done = omega arith in
    let e2 : ((done + 1) - 1) - 1 ≡ done - 1 = omega arith in
    let e3 : (done - 1) + 1 ≡ done = omega (arith, c.loop-done.auto.done) in
    let a : height ks (done - 1) ≡ c.index-slot.result.now.knot.value = ap (λ (q : Knot). q.value) here in
    let b : height ks done ≡ c.index-next.result.now.knot.value = ap (λ (q : Knot). q.value) there in
    let fits-a : FitsSigned w64 c.index-slot.result.now.knot.value = search rules in
    let fits-b : FitsSigned w64 c.index-next.result.now.knot.value = search rules in
    let e-a : to_z w64 (of_z w64 c.index-slot.result.now.knot.value) ≡ c.index-slot.result.now.knot.value =
    to_z-of_z w64 _ fits-a in
    let e-b : to_z w64 (of_z w64 c.index-next.result.now.knot.value) ≡ c.index-next.result.now.knot.value =
    to_z-of_z w64 _ fits-b in
    let test = c.if-slot-next.true in
    let rise : height ks (done - 1) ≤ℤ height ks done = omega (arith, ints) in
    IsAtTurn-here ks n (done - 1) _ (omega (arith, c.loop-done-test.true))
    (λ h. c.loop-done.invariant.falls (omega arith))
    (λ h. subst (λ m. height ks (done - 1) ≤ℤ height ks m) (sym e3) rise) (sym here)

pub loop-done-preserved : goal.loop-done-preserved
loop-done-preserved c =
    let slots = c.args.self.now.slots.items in
    let head = c.args.head in
    let n = c.args.count in
    let done = c.loop-done.done in
    let cell = c.loop-done.invariant.here in
    let read : c.index-slot.result.now ≡ slot_at slots c.loop-done.at =
    get_or_read slots c.loop-done.at _ cell.inside c.index-slot.ensures no_slot in
    let to : c.index-slot.result.now.next ≡ (slot_at slots c.loop-done.at).next = ap (λ s. s.next) read in
    let more : IsCellAt slots head n done c.index-slot.result.now.next =
    subst (λ m. IsCellAt slots head n done m) (sym to)
    (IsCellAt-next slots head n (done - 1) done c.loop-done.at c.requires.used cell
    (omega (arith, c.loop-done.auto.done)) c.loop-done-test.true) in
    let ks = knots_at slots (walk slots head n) in
    let read-next : c.index-next.result.now ≡ slot_at slots c.index-slot.result.now.next =
    get_or_read slots _ _ more.inside c.index-next.ensures no_slot in
    let here : knot ks (done - 1) ≡ c.index-slot.result.now.knot = cell.knot ∙ ap (λ s. s.knot) (sym read) in
    let there : knot ks done ≡ c.index-next.result.now.knot = more.knot ∙ ap (λ s. s.knot) (sym read-next) in
    let e1 : (done + 1) - 1 ≡ done = omega arith in
    let e2 : ((done + 1) - 1) - 1 ≡ done - 1 = omega arith in
    let e3 : (done - 1) + 1 ≡ done = omega (arith, c.loop-done.auto.done) in
    let a : height ks (done - 1) ≡ c.index-slot.result.now.knot.value = ap (λ (q : Knot). q.value) here in
    let b : height ks done ≡ c.index-next.result.now.knot.value = ap (λ (q : Knot). q.value) there in
    let fits-a : FitsSigned w64 c.index-slot.result.now.knot.value = search rules in
    let fits-b : FitsSigned w64 c.index-next.result.now.knot.value = search rules in
    let e-a : to_z w64 (of_z w64 c.index-slot.result.now.knot.value) ≡ c.index-slot.result.now.knot.value =
    to_z-of_z w64 _ fits-a in
    let e-b : to_z w64 (of_z w64 c.index-next.result.now.knot.value) ≡ c.index-next.result.now.knot.value =
    to_z-of_z w64 _ fits-b in
    let test = c.if-slot-next.false in
    let fall : height ks done <ℤ height ks (done - 1) = omega (arith, ints) in
    record {
      here = subst (λ m. IsCellAt slots head n m c.index-slot.result.now.next) (sym e1) more;
      falls = λ h. subst (λ m. height ks m <ℤ height ks (m - 1)) (sym e1) fall;
    }

pub index-requires : goal.index-requires
index-requires c = let inside = c.loop-done.invariant.here.inside in omega (arith, inside, c.args.self.now.slots.ok.0)

pub returns : goal.returns
returns c =
    let slots = c.args.self.now.slots.items in
    let ks = knots_at slots (walk slots c.args.head c.args.count) in
    let done = c.loop-done.done in
    let cell = c.loop-done.invariant.here in
    let read : c.index.result.now ≡ slot_at slots c.loop-done.at =
    get_or_read slots c.loop-done.at _ cell.inside c.index.ensures no_slot in
    IsAtTurn-here ks c.args.count (done - 1) _
    (omega (arith, c.loop-done.auto.done, c.loop-done.auto.done-end, c.requires.some))
    (λ h. c.loop-done.invariant.falls (omega arith))
    (λ h. absurd (omega (arith, c.loop-done-test.false, c.loop-done.auto.done))) (ap (λ s. s.knot) read ∙ sym cell.knot)
