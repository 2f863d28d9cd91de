use Rattle.point_pool.proofs.Common.{◌≡◌, ◌≤◌, length, ◌∙◌, arith, to_z, of_z, curve_value, w64, to_z-of_z}
use Rattle.point_pool.proofs.Lemmas.{written, breaks, can_add_curve, left_list, curve_sum}
use Rattle.point_pool.proofs.pool.Pool.add_curve.Goals as goal

pub curve_step-requires-clause-breaks : goal.curve_step-requires-clause-breaks
curve_step-requires-clause-breaks c =
    let room = c.requires.room in
    let fits : c.args.used ≤ length c.args.self.now.work.items = omega (arith, room) in
    breaks c.knots_decide.ensures.same c.args.self.now.work.items c.deref_mut.result.now c.args.used fits
    c.deref_mut.ensures.value c.requires.breaks

pub curve_step-requires-clause-fits : goal.curve_step-requires-clause-fits
curve_step-requires-clause-fits c =
    let room = c.requires.room in
    let fits : c.args.used ≤ length c.args.self.now.work.items = omega (arith, room) in
    let e-shift : to_z w64 (of_z w64 c.args.shift) ≡ c.args.shift = to_z-of_z w64 _ c.ranges.shift in
    rw e-shift (can_add_curve c.knots_decide.ensures.same c.args.self.now.work.items c.deref_mut.result.now c.args.used
    fits c.deref_mut.ensures.value c.requires.breaks (curve_value c.args.curve.now) c.args.shift c.requires.fits)

pub returns-clause-sum : goal.returns-clause-sum
returns-clause-sum c =
    let room = c.requires.room in
    let fits : c.args.used ≤ length c.args.self.now.work.items = omega (arith, room) in
    let k2 = c.curve_step.new.knots in
    let long : length k2 ≡ c.args.self.now.work.len = c.curve_step.auto.knots ∙ c.deref_mut.ensures.len in
    let whole = c.args.self.now.work.ok.0 in
    let charge = c.curve_step.ensures.charge in
    let most : c.curve_step.result ≤ length k2 = omega (arith, room, long, whole, charge) in
    let e-shift : to_z w64 (of_z w64 c.args.shift) ≡ c.args.shift = to_z-of_z w64 _ c.ranges.shift in
    rw (written k2 c.args.self.now.work.items c.args.self.now.work.len long)
    (curve_sum c.knots_decide.ensures.same c.args.self.now.work.items c.deref_mut.result.now c.args.used fits
    c.deref_mut.ensures.value c.requires.breaks
    k2 c.curve_step.result most c.curve_step.ensures.breaks c.operations_depend_on_values_alone.ensures.curve
    (curve_value c.args.curve.now) c.args.shift (rw e-shift at c.curve_step.ensures.sum))

pub returns-clause-breaks : goal.returns-clause-breaks
returns-clause-breaks c =
    let room = c.requires.room in
    let fits : c.args.used ≤ length c.args.self.now.work.items = omega (arith, room) in
    let k2 = c.curve_step.new.knots in
    let long : length k2 ≡ c.args.self.now.work.len = c.curve_step.auto.knots ∙ c.deref_mut.ensures.len in
    let whole = c.args.self.now.work.ok.0 in
    let charge = c.curve_step.ensures.charge in
    let most : c.curve_step.result ≤ length k2 = omega (arith, room, long, whole, charge) in
    rw (written k2 c.args.self.now.work.items c.args.self.now.work.len long)
    (left_list c.knots_decide.ensures.same c.args.self.now.work.items c.deref_mut.result.now c.args.used fits
    c.deref_mut.ensures.value c.requires.breaks
    k2 c.curve_step.result most c.curve_step.ensures.breaks)
