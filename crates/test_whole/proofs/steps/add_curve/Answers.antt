use Rattle.test_whole.proofs.Common.{◌≡◌, List, length, refl, subst, arith, to_z, of_z, w64, ints, to_z-of_z, Block}
use Rattle.test_whole.proofs.Common.{AreFair}
use Rattle.test_whole.proofs.SmallLaws.{end_bounds, IsLimitedCurve-fair, CanAddCurve-fair}
use Rattle.test_whole.proofs.steps.add_curve.Goals as goal

pub overflow_sub-last : goal.overflow_sub-last
overflow_sub-last g c =
    let bs = c.args.curve.now.blocks.items in
    let fair : AreFair bs (length bs) =
    subst (λ (l : List Block). AreFair l (length l)) c.as_slice.ensures (c.if-not-are_fair.ensures refl) in
    let b = end_bounds bs c.args.curve.now.at fair in
    let b0 = b.0 in
    let b1 = b.1 in
    let end = c.end.ensures in
    omega (arith, ints)

pub overflow_add-last : goal.overflow_add-last
overflow_add-last g c =
    let bs = c.args.curve.now.blocks.items in
    let fair : AreFair bs (length bs) =
    subst (λ (l : List Block). AreFair l (length l)) c.as_slice.ensures (c.if-not-are_fair.ensures refl) in
    let b = end_bounds bs c.args.curve.now.at fair in
    let b0 = b.0 in
    let b1 = b.1 in
    let end = c.end.ensures in
    omega (arith, ints)

pub add_curve-requires-clause-limited : goal.add_curve-requires-clause-limited
add_curve-requires-clause-limited g c =
    let bs = c.args.curve.now.blocks.items in
    let fair : AreFair bs (length bs) =
    subst (λ (l : List Block). AreFair l (length l)) c.as_slice.ensures (c.if-not-are_fair.ensures refl) in
    IsLimitedCurve-fair c.args.curve.now c.requires.few fair c.requires.at c.requires.value

pub add_curve-requires-clause-fits : goal.add_curve-requires-clause-fits
add_curve-requires-clause-fits g c =
    let bs = c.args.curve.now.blocks.items in
    let fair : AreFair bs (length bs) =
    subst (λ (l : List Block). AreFair l (length l)) c.as_slice.ensures (c.if-not-are_fair.ensures refl) in
    let b = end_bounds bs c.args.curve.now.at fair in
    let b0 = b.0 in
    let b1 = b.1 in
    let end = c.end.ensures in
    let e-shift : to_z w64 (of_z w64 c.args.shift) ≡ c.args.shift = to_z-of_z w64 _ c.ranges.shift in
    rw e-shift (CanAddCurve-fair c.args.curve.now c.requires.few fair c.requires.at c.requires.value
    c.curve_has_value_at_each_power.ensures (g.S.Shape.function c.args.home.now c.args.s.now) c.args.shift
    (c.if-not-is_small.ensures refl) c.requires.shift
    (λ x from to. (c.if-not-before.ensures refl) x (omega (arith, ints)) (omega (arith, ints)))
    (λ x from to. (c.if-not-after.ensures refl) x (omega (arith, ints)) (omega (arith, ints))))
