use Rattle.plan_check.proofs.Common.{◌≡◌, ◌*◌, pos, neg_ℤ, IsFrom, thermal_of, schedule_of, sum_below, production_at}
use Rattle.cost_curve.specs.EnvelopePieces.{IsNear}
use Rattle.plan_check.proofs.costs.power_costs.Given as goal

abbrev pub invariant-loop-index : goal.invariant-loop-index
invariant-loop-index l = record {
  is : l.sum ≡ sum_below l.index (production_at (thermal_of l.unit) (schedule_of l.response));
  limit : IsFrom (neg_ℤ (pos (10000000000000 * l.index))) (pos (10000000000000 * l.index)) l.sum;
  near : IsNear (thermal_of l.unit).points l.near;
}
