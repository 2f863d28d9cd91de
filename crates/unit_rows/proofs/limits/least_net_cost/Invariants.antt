use Rattle.unit_rows.proofs.Common.{ℕ, ◌<◌, pos, neg_ℤ, ◌-ℤ◌, ◌*ℤ◌, ◌≤ℤ◌, slice_index_or, Point, IsFrom}
use Rattle.unit_rows.proofs.limits.least_net_cost.Given as goal

abbrev pub invariant-loop-point : goal.invariant-loop-point
invariant-loop-point l = record {
  below : (k : ℕ) (d : Point) → k < l.point-index → l.least ≤ℤ
      ((slice_index_or l.points k d).cost -ℤ (l.price *ℤ (slice_index_or l.points k d).at));
  within : IsFrom (neg_ℤ (pos 20010000000000000)) (pos 20010000000000000) l.least;
}
