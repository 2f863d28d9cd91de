use Rattle.unit_rows.proofs.Common.{◌≡◌, ◌+◌, ◌-◌, ◌*◌, pos, neg_ℤ, length, IsFrom, thermal_of, prices_of, int_at}
use Rattle.unit_rows.proofs.Common.{AreKnown}
use Rattle.unit_rows.proofs.Lemmas.{AreLimitsFrom}
use Rattle.unit_rows.proofs.limits.write_cost_limits_by_period.Given as goal

abbrev pub invariant-loop-back : goal.invariant-loop-back
invariant-loop-back l = record {
  here : l.limit ≡ int_at l.limits.items (length l.prices.energy.items - l.back);
  right : AreLimitsFrom (thermal_of l.unit) (prices_of l.prices) l.most (length l.prices.energy.items - l.back)
      l.limits.items;
  bound : IsFrom (neg_ℤ (pos 4000000000000000000)) (pos (4000000000000000000 + l.back * 20110000000000000)) l.limit;
  same : length l.limits.items ≡ length l.fn.limits.items;
  known : AreKnown l.unit.points.items l.known.first_to l.known.last_from;
}
