use Rattle.plan_check.proofs.Common.{◌≡◌, ◌≤◌, ◌+◌, ◌*◌, pos, IsFrom, thermal_of, schedule_of, time_down, sum_below}
use Rattle.plan_check.proofs.Common.{start_cost_at}
use Rattle.plan_check.proofs.costs.costs_of_starts.Given as goal

abbrev pub invariant-loop-index : goal.invariant-loop-index
invariant-loop-index l = record {
  down : l.down ≡ time_down (thermal_of l.unit) (schedule_of l.response) l.index;
  down_limit : l.down ≤ 1000000 + l.index;
  is : l.sum ≡ sum_below l.index (start_cost_at (thermal_of l.unit) (schedule_of l.response));
  limit : IsFrom (pos 0) (pos (10000000000000 * l.index)) l.sum;
}
