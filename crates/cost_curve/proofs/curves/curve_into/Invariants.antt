use Rattle.cost_curve.proofs.Common.{◌≡◌, ◌+◌, ◌-◌, ◌*◌, ◌<◌, ◌≤◌, ℤ, length, IsBuilt, point_at, IsVertex}
use Rattle.cost_curve.proofs.curves.curve_into.Given as goal

abbrev pub invariant-walk : goal.invariant-walk
invariant-walk l = record {
  within : l.from < length l.points;
  price : ℤ;
  vertex : IsVertex l.points price (point_at l.points l.from);
  built : IsBuilt l.points l.into.at l.into.value l.into.blocks.items (point_at l.points l.from).at price;
  starts : l.into.at ≡ (point_at l.points 0).at;
  few : length l.into.blocks.items ≤ 2 * l.from;
  room : length l.into.blocks.items + l.into.blocks.spare ≡ length l.fn.into.blocks.items + l.fn.into.blocks.spare;
}

abbrev pub decreases-walk : goal.decreases-walk
decreases-walk l = length l.points - l.from
