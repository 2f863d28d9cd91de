use Rattle.ramp_step.proofs.Common.{◌≡◌, ◌-◌, None, ap, ◌∙◌, arith, to_z, of_z, w64, ints, to_z-of_z, knot, power}
use Rattle.ramp_step.proofs.Common.{height}
use Rattle.ramp_step.proofs.Lemmas.{is_inside, rises, on_line_between, within_between, value_between, IsLimited-within}
use Rattle.ramp_step.proofs.Lemmas.{shape_of, value_of-from_knots, within_of}
use Rattle.ramp_step.proofs.read.value_at.Goals as goal

pub returns-then-m-used : goal.returns-then-m-used
returns-then-m-used c =
    value_of-from_knots c.args.knots.now c.args.used c.args.x None
    (shape_of c.args.knots.now c.args.used c.requires.breaks) (λ inside.
    let b = c.below-m.ensures.before (c.args.used - 1) (omega arith) in
    omega (arith, ints))

pub returns-then-knots-m : goal.returns-then-knots-m
returns-then-knots-m c =
    let ks = c.args.knots.now in
    let m = c.below-m.result in
    let shape = shape_of ks c.args.used c.requires.breaks in
    let f = shape.0 in
    let s = shape.1 in
    let limits = within_of ks c.args.used c.requires.breaks in
    let there : power ks m ≡ c.args.x = omega (arith, ints) in
    let i = is_inside ks c.args.used f m s (omega arith) in
    let a0 = (limits.amounts m (omega arith)).0 in
    let e : to_z w64 (of_z w64 (knot ks m).value) ≡ height ks m = omega (arith, ints) in
    value_of-from_knots ks c.args.used c.args.x _ shape (record {
      inside = record { some = omega arith; from_first = omega (arith, ints); to_last = omega (arith, ints) };
      value = e ∙ s.meet m (omega arith) ∙ ap f there;
    })

pub between-knot-requires-clause-line : goal.between-knot-requires-clause-line
between-knot-requires-clause-line c =
    let e : to_z w64 (of_z w64 c.args.x) ≡ c.args.x = to_z-of_z w64 _ c.ranges.x in
    let b = rw e at c.below-m.ensures in
    let m = c.below-m.result in
    let low = b.before (m - 1) (omega arith) in
    let high = b.after (omega arith) in
    let shape = shape_of c.args.knots.now c.args.used c.requires.breaks in
    rw e (on_line_between c.args.knots.now c.args.used m shape.0 shape.1 (omega arith) (omega arith) c.args.x
    (omega (arith, ints)) high)

pub between-knot-requires-clause-within : goal.between-knot-requires-clause-within
between-knot-requires-clause-within c =
    within_between c.args.knots.now c.args.used c.below-m.result
    (IsLimited-within c.args.knots.now c.args.used (within_of c.args.knots.now c.args.used c.requires.breaks))
    (omega arith) (omega arith)

pub returns : goal.returns
returns c =
    let ks = c.args.knots.now in
    let n = c.args.used in
    let shape = shape_of ks n c.requires.breaks in
    let f = shape.0 in
    let s = shape.1 in
    let e : to_z w64 (of_z w64 c.args.x) ≡ c.args.x = to_z-of_z w64 _ c.ranges.x in
    let b = rw e at c.below-m.ensures in
    let m = c.below-m.result in
    let low = b.before (m - 1) (omega arith) in
    let high = b.after (omega arith) in
    let is = rw e at c.between-knot.ensures in
    let fits : to_z w64 (of_z w64 c.between-knot.result.value) ≡ c.between-knot.result.value = omega (arith, ints) in
    let first = rises n (power ks) s.rise (m - 1) 0 (m - 1) (omega arith) (omega arith) in
    let last = rises n (power ks) s.rise ((n - 1) - m) m (n - 1) (omega arith) (omega arith) in
    value_of-from_knots ks n c.args.x _ shape (record {
      inside = record { some = omega arith; from_first = omega (arith, ints); to_last = omega (arith, ints) };
      value = fits ∙ value_between ks n m f s (omega arith) (omega arith) c.args.x c.between-knot.result
          (omega (arith, ints)) high is;
    })
