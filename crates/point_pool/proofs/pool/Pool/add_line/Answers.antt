use Rattle.point_pool.proofs.Common.{◌≡◌, ◌≤◌, length, ◌∙◌, arith, to_z, of_z, ℤ, ◌*ℤ◌, w64, to_z-of_z}
use Rattle.point_pool.proofs.Lemmas.{written, breaks, can_add, left_list, sum}
use Rattle.point_pool.proofs.pool.Pool.add_line.Goals as goal

pub line_step-requires-clause-breaks : goal.line_step-requires-clause-breaks
line_step-requires-clause-breaks c =
    let room = c.requires.room in
    let fits : c.args.used ≤ length c.args.self.now.work.items = omega (arith, room) in
    breaks c.knots_decide.ensures.same c.args.self.now.work.items c.deref_mut.result.now c.args.used fits
    c.deref_mut.ensures.value c.requires.breaks

pub line_step-requires-clause-fits : goal.line_step-requires-clause-fits
line_step-requires-clause-fits c =
    let room = c.requires.room in
    let fits : c.args.used ≤ length c.args.self.now.work.items = omega (arith, room) in
    let e-slope : to_z w64 (of_z w64 c.args.slope) ≡ c.args.slope = to_z-of_z w64 _ c.ranges.slope in
    rw e-slope (can_add c.knots_decide.ensures.same c.args.self.now.work.items c.deref_mut.result.now c.args.used fits
    c.deref_mut.ensures.value c.requires.breaks (λ (x : ℤ). c.args.slope *ℤ x) c.requires.fits)

pub returns-clause-sum : goal.returns-clause-sum
returns-clause-sum c =
    let room = c.requires.room in
    let fits : c.args.used ≤ length c.args.self.now.work.items = omega (arith, room) in
    let k2 = c.line_step.new.knots in
    let long : length k2 ≡ c.args.self.now.work.len = c.line_step.auto.knots ∙ c.deref_mut.ensures.len in
    let whole = c.args.self.now.work.ok.0 in
    let most : c.args.used ≤ length k2 = omega (arith, room, long, whole) in
    let e-slope : to_z w64 (of_z w64 c.args.slope) ≡ c.args.slope = to_z-of_z w64 _ c.ranges.slope in
    rw (written k2 c.args.self.now.work.items c.args.self.now.work.len long)
    (sum c.knots_decide.ensures.same c.args.self.now.work.items c.deref_mut.result.now c.args.used fits
    c.deref_mut.ensures.value c.requires.breaks
    k2 c.args.used most c.line_step.ensures.breaks c.operations_depend_on_values_alone.ensures.sum
    (λ (x : ℤ). c.args.slope *ℤ x)
    (rw e-slope at c.line_step.ensures.sum))

pub returns-clause-breaks : goal.returns-clause-breaks
returns-clause-breaks c =
    let room = c.requires.room in
    let fits : c.args.used ≤ length c.args.self.now.work.items = omega (arith, room) in
    let k2 = c.line_step.new.knots in
    let long : length k2 ≡ c.args.self.now.work.len = c.line_step.auto.knots ∙ c.deref_mut.ensures.len in
    let whole = c.args.self.now.work.ok.0 in
    let most : c.args.used ≤ length k2 = omega (arith, room, long, whole) in
    rw (written k2 c.args.self.now.work.items c.args.self.now.work.len long)
    (left_list c.knots_decide.ensures.same c.args.self.now.work.items c.deref_mut.result.now c.args.used fits
    c.deref_mut.ensures.value c.requires.breaks
    k2 c.args.used most c.line_step.ensures.breaks)
