use Rattle.point_pool.proofs.Common.{◌≡◌, ◌≤◌, length, ◌∙◌, arith, to_z, of_z, w64, to_z-of_z}
use Rattle.point_pool.proofs.Lemmas.{written, breaks, left_list, moved}
use Rattle.point_pool.proofs.pool.Pool.window.Goals as goal

pub window_step-requires-clause-breaks : goal.window_step-requires-clause-breaks
window_step-requires-clause-breaks c =
    let room = c.requires.room in
    let fits : c.args.used ≤ length c.args.self.now.work.items = omega (arith, room) in
    breaks c.knots_decide.ensures.same c.args.self.now.work.items c.deref_mut.result.now c.args.used fits
    c.deref_mut.ensures.value c.requires.breaks

pub returns-clause-window : goal.returns-clause-window
returns-clause-window c =
    let room = c.requires.room in
    let fits : c.args.used ≤ length c.args.self.now.work.items = omega (arith, room) in
    let k2 = c.window_step.new.knots in
    let long : length k2 ≡ c.args.self.now.work.len = c.window_step.auto.knots ∙ c.deref_mut.ensures.len in
    let whole = c.args.self.now.work.ok.0 in
    let charge = c.window_step.ensures.charge in
    let most : c.window_step.result ≤ length k2 = omega (arith, room, long, whole, charge) in
    let e-up : to_z w64 (of_z w64 c.args.up) ≡ c.args.up = to_z-of_z w64 _ c.ranges.up in
    let e-down : to_z w64 (of_z w64 c.args.down) ≡ c.args.down = to_z-of_z w64 _ c.ranges.down in
    let e-lo : to_z w64 (of_z w64 c.args.lo) ≡ c.args.lo = to_z-of_z w64 _ c.ranges.lo in
    let e-hi : to_z w64 (of_z w64 c.args.hi) ≡ c.args.hi = to_z-of_z w64 _ c.ranges.hi in
    rw (written k2 c.args.self.now.work.items c.args.self.now.work.len long)
    (moved c.knots_decide.ensures.same c.args.self.now.work.items c.deref_mut.result.now c.args.used fits
    c.deref_mut.ensures.value c.requires.breaks
    k2 c.window_step.result most c.window_step.ensures.breaks c.operations_depend_on_values_alone.ensures.window
    c.args.up
    c.args.down c.args.lo c.args.hi (rw (e-up, e-down, e-lo, e-hi) at c.window_step.ensures.window))

pub returns-clause-breaks : goal.returns-clause-breaks
returns-clause-breaks c =
    let room = c.requires.room in
    let fits : c.args.used ≤ length c.args.self.now.work.items = omega (arith, room) in
    let k2 = c.window_step.new.knots in
    let long : length k2 ≡ c.args.self.now.work.len = c.window_step.auto.knots ∙ c.deref_mut.ensures.len in
    let whole = c.args.self.now.work.ok.0 in
    let charge = c.window_step.ensures.charge in
    let most : c.window_step.result ≤ length k2 = omega (arith, room, long, whole, charge) in
    rw (written k2 c.args.self.now.work.items c.args.self.now.work.len long)
    (left_list c.knots_decide.ensures.same c.args.self.now.work.items c.deref_mut.result.now c.args.used fits
    c.deref_mut.ensures.value c.requires.breaks
    k2 c.window_step.result most c.window_step.ensures.breaks)
