use Rattle.unit_rows.proofs.Common.{rules, ◌≡◌, pos, ◌∙◌, arith, to_z, of_z, FitsSigned, w64, int_min, bounded}
use Rattle.unit_rows.proofs.Common.{to_z-of_z, Point}
use Rattle.unit_rows.proofs.Lemmas.{net_beside}
use Rattle.unit_rows.proofs.limits.least_net_cost.Goals as goal

pub loop-point-preserved : goal.loop-point-preserved
loop-point-preserved c =
    let fits_min : FitsSigned w64 c.min-least.result = search rules in
    let fits_net : FitsSigned w64 c.net_cost_of_point.result = search rules in
    let before = to_z w64 c.loop-point.least-bits in
    let value = rw (to_z-of_z w64 c.net_cost_of_point.result fits_net) at c.min-least.ensures.value in
    let least : to_z w64 (of_z w64 c.min-least.result) ≡ int_min c.net_cost_of_point.result before =
    to_z-of_z w64 c.min-least.result fits_min ∙ value in
    let none : Point = record { at = pos 0; cost = pos 0 } in
    let within = c.loop-point.invariant.within in
    let bound = c.net_cost_of_point.ensures.bound in
    record {
      below = net_beside c.args.points.now c.loop-point.point-index none (to_z w64 (of_z w64 c.args.price)) before
          c.net_cost_of_point.result (to_z w64 (of_z w64 c.min-least.result)) c.net_cost_of_point.ensures.value least
          c.loop-point.invariant.below (omega arith);
      within = omega bounded;
    }
