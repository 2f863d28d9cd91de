use Rattle.case_make.proofs.Common.{◌≡◌, ◌+◌, ◌≤◌, map, range_with_len, point_of, cost_of}
use Rattle.case_make.proofs.units.cost_points.Given as goal

abbrev pub invariant-loop-index : goal.invariant-loop-index
invariant-loop-index l = record {
  so_far : l.points.items ≡ map (point_of l.draws) (range_with_len 0 (l.index + 1));
  last_cost : l.cost ≡ cost_of l.draws l.index;
  room : 3 ≤ l.points.spare + l.index;
}
