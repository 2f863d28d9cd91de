use Rattle.cost_curve.proofs.Common.{◌-◌, ◌<◌, ℤ, ◌≤ℤ◌, length, point_at, IsVertex}
use Rattle.cost_curve.proofs.costs.envelope_piece_of_power.Given as goal

abbrev pub invariant-walk : goal.invariant-walk
invariant-walk l = record {
  within : l.from < length l.points;
  price : ℤ;
  vertex : IsVertex l.points price (point_at l.points l.from);
  reached : (point_at l.points l.from).at ≤ℤ l.x;
}

abbrev pub decreases-walk : goal.decreases-walk
decreases-walk l = length l.points - l.from
