use Rattle.point_pool.proofs.Common.{◌≡◌, List, sym, subst, to_z, of_z, w64, to_z-of_z, curve_value, CanAddCurve, Knot}
use Rattle.point_pool.proofs.Common.{function_of}
use Rattle.point_pool.proofs.Lemmas.{Frame-changes}
use Rattle.point_pool.proofs.pooled.PooledShape.add_curve.Goals as goal

pub add_curve-left-requires-clause-fits : goal.add_curve-left-requires-clause-fits
add_curve-left-requires-clause-fits c =
    let e-shift : to_z w64 (of_z w64 c.args.shift) ≡ c.args.shift = to_z-of_z w64 _ c.ranges.shift in
    rw e-shift (subst (λ (ks : List Knot). CanAddCurve (curve_value c.args.curve.now) c.args.shift (function_of ks))
    (sym c.load.ensures.knots) c.requires.fits)

pub returns-clause-frame : goal.returns-clause-frame
returns-clause-frame c =
    Frame-changes c.args.home.now c.replace-self.new.self _ _
    (rw (c.add_curve-left.ensures.slots, c.load.ensures.slots) at c.replace-self.ensures.replaced.changes)
