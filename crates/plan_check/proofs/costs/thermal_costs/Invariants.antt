use Rattle.plan_check.proofs.Common.{◌≡◌, ◌*◌, pos, neg_ℤ, take, cost_of, IsFrom, market_of, schedules_of, sum_over}
use Rattle.plan_check.proofs.Common.{thermal_units}
use Rattle.plan_check.proofs.costs.thermal_costs.Given as goal

abbrev pub invariant-loop-index : goal.invariant-loop-index
invariant-loop-index l = record {
  is : l.sum ≡ sum_over cost_of (take l.index (thermal_units (market_of l.case))) (schedules_of l.plan);
  limit : IsFrom (neg_ℤ (pos (4000000000000000 * l.index))) (pos (4000000000000000 * l.index)) l.sum;
}
