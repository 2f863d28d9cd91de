use Rattle.gap_proof.proofs.Common.{◌≡◌, ◌*◌, ◌*ℤ◌, market_of, proposal_of, sum_below, IsWithin, price_at, slope_at}
use Rattle.gap_proof.proofs.planes.plane_height_at_zero_prices.Given as goal

abbrev pub invariant-loop-index : goal.invariant-loop-index
invariant-loop-index l = record {
  so_far : l.at_prices ≡ sum_below l.index
      (λ j. slope_at (market_of l.case) (proposal_of l.row) j *ℤ price_at (market_of l.case) (proposal_of l.row).prices
      j);
  bound : IsWithin (l.index * 200000000000000000000) l.at_prices;
}
