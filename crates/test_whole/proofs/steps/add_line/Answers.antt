use Rattle.test_whole.proofs.Common.{◌≡◌, refl, to_z, of_z, w64, to_z-of_z}
use Rattle.test_whole.proofs.SmallLaws.{CanAdd-line}
use Rattle.test_whole.proofs.steps.add_line.Goals as goal

pub add_line-requires-clause-fits : goal.add_line-requires-clause-fits
add_line-requires-clause-fits g c =
    let e : to_z w64 (of_z w64 c.args.slope) ≡ c.args.slope = to_z-of_z w64 _ c.ranges.slope in
    rw e (CanAdd-line (g.S.Shape.function c.args.home.now c.args.s.now) c.args.slope (c.if-not-is_small.ensures refl)
    c.requires.slope)
