use Rattle.point_list.proofs.Common.{◌≡◌, to_z, of_z, w64, to_z-of_z}
use Rattle.point_list.proofs.breaks.BreaksShape.add_curve.Goals as goal

pub add_curve-requires-clause-fits : goal.add_curve-requires-clause-fits
add_curve-requires-clause-fits c =
    let e-shift : to_z w64 (of_z w64 c.args.shift) ≡ c.args.shift = to_z-of_z w64 _ c.ranges.shift in
    rw e-shift c.requires.fits
