use Rattle.point_pool.proofs.Common.{◌≡◌, ◌≤◌, length, ◌∙◌, arith, to_z, of_z, reserve_term, w64, to_z-of_z}
use Rattle.point_pool.proofs.Lemmas.{written, breaks, can_add, left_list, sum}
use Rattle.point_pool.proofs.pool.Pool.add_reserve.Goals as goal

pub kink_step-requires-clause-breaks : goal.kink_step-requires-clause-breaks
kink_step-requires-clause-breaks c =
    let room = c.requires.room in
    let fits : c.args.used ≤ length c.args.self.now.work.items = omega (arith, room) in
    breaks c.knots_decide.ensures.same c.args.self.now.work.items c.deref_mut.result.now c.args.used fits
    c.deref_mut.ensures.value c.requires.breaks

pub kink_step-requires-clause-fits : goal.kink_step-requires-clause-fits
kink_step-requires-clause-fits c =
    let room = c.requires.room in
    let fits : c.args.used ≤ length c.args.self.now.work.items = omega (arith, room) in
    let e-mu : to_z w64 (of_z w64 c.args.mu) ≡ c.args.mu = to_z-of_z w64 _ c.ranges.mu in
    let e-cap : to_z w64 (of_z w64 c.args.cap) ≡ c.args.cap = to_z-of_z w64 _ c.ranges.cap in
    let e-up : to_z w64 (of_z w64 c.args.up) ≡ c.args.up = to_z-of_z w64 _ c.ranges.up in
    rw (e-mu, e-cap, e-up) (can_add c.knots_decide.ensures.same c.args.self.now.work.items c.deref_mut.result.now
    c.args.used fits c.deref_mut.ensures.value c.requires.breaks (reserve_term c.args.mu c.args.cap c.args.up)
    c.requires.fits)

pub returns-clause-sum : goal.returns-clause-sum
returns-clause-sum c =
    let room = c.requires.room in
    let fits : c.args.used ≤ length c.args.self.now.work.items = omega (arith, room) in
    let k2 = c.kink_step.new.knots in
    let long : length k2 ≡ c.args.self.now.work.len = c.kink_step.auto.knots ∙ c.deref_mut.ensures.len in
    let whole = c.args.self.now.work.ok.0 in
    let charge = c.kink_step.ensures.charge in
    let most : c.kink_step.result ≤ length k2 = omega (arith, room, long, whole, charge) in
    let e-mu : to_z w64 (of_z w64 c.args.mu) ≡ c.args.mu = to_z-of_z w64 _ c.ranges.mu in
    let e-cap : to_z w64 (of_z w64 c.args.cap) ≡ c.args.cap = to_z-of_z w64 _ c.ranges.cap in
    let e-up : to_z w64 (of_z w64 c.args.up) ≡ c.args.up = to_z-of_z w64 _ c.ranges.up in
    rw (written k2 c.args.self.now.work.items c.args.self.now.work.len long)
    (sum c.knots_decide.ensures.same c.args.self.now.work.items c.deref_mut.result.now c.args.used fits
    c.deref_mut.ensures.value c.requires.breaks
    k2 c.kink_step.result most c.kink_step.ensures.breaks c.operations_depend_on_values_alone.ensures.sum
    (reserve_term c.args.mu c.args.cap c.args.up) (rw (e-mu, e-cap, e-up) at c.kink_step.ensures.sum))

pub returns-clause-breaks : goal.returns-clause-breaks
returns-clause-breaks c =
    let room = c.requires.room in
    let fits : c.args.used ≤ length c.args.self.now.work.items = omega (arith, room) in
    let k2 = c.kink_step.new.knots in
    let long : length k2 ≡ c.args.self.now.work.len = c.kink_step.auto.knots ∙ c.deref_mut.ensures.len in
    let whole = c.args.self.now.work.ok.0 in
    let charge = c.kink_step.ensures.charge in
    let most : c.kink_step.result ≤ length k2 = omega (arith, room, long, whole, charge) in
    rw (written k2 c.args.self.now.work.items c.args.self.now.work.len long)
    (left_list c.knots_decide.ensures.same c.args.self.now.work.items c.deref_mut.result.now c.args.used fits
    c.deref_mut.ensures.value c.requires.breaks
    k2 c.kink_step.result most c.kink_step.ensures.breaks)
