use Rattle.gap_proof.proofs.Common.{◌≡◌, ◌*◌, ◌*ℤ◌, int_max, market_of, prices_of, int_at, sum_below, IsWithin, low_end}
use Rattle.gap_proof.proofs.Common.{high_end}
use Rattle.gap_proof.proofs.plane_sums.sum_of_greatest_slope_terms.Given as goal

abbrev pub invariant-loop-index : goal.invariant-loop-index
invariant-loop-index l = record {
  so_far : l.total ≡ sum_below l.index
      (λ j. int_max (int_at l.slopes.items j *ℤ low_end (market_of l.case) (prices_of l.centre) l.radius j)
      (int_at l.slopes.items j *ℤ high_end (market_of l.case) (prices_of l.centre) l.radius j));
  bound : IsWithin (l.index * 10000000000000000000000000000000) l.total;
}
