use Rattle.uc_field.proofs.Common.{sym, arith, w64, rules, FitsSigned, to_z-of_z}
use Rattle.uc_field.proofs.Lemmas.{is_point_list}
use Rattle.uc_field.proofs.lists.read_cost_curve_points.Goals as goal

pub returns-clause-fits : goal.returns-clause-fits
returns-clause-fits c =
    let low : FitsSigned w64 c.args.low = search rules in
    let high : FitsSigned w64 c.args.high = search rules in
    let misses = rw (to_z-of_z w64 c.args.low low, to_z-of_z w64 c.args.high high, c.as_slice.ensures) at
    c.if-curve_misses_ends.ensures in
    is_point_list c.args.low c.args.high c.in_ok-points.points.items (omega (arith, c.in_ok-points.ensures.count))
    c.in_ok-points.ensures.fits (sym misses)
