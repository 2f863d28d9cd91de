use Rattle.price_space.proofs.Common.{◌≡◌, ◌*◌, pos, ◌*ℤ◌, IsFrom, market_of, proposal_of, direction_at, sum_below}
use Rattle.price_space.proofs.step.squared_norm_of_direction.Given as goal

abbrev pub invariant-loop-place : goal.invariant-loop-place
invariant-loop-place l = record {
  so_far : l.total ≡ sum_below l.place
      (λ p. direction_at (market_of l.case) (proposal_of l.row) p *ℤ direction_at (market_of l.case) (proposal_of l.row)
      p);
  bound : IsFrom (pos 0) (pos (l.place * 400000000000000000000000000)) l.total;
}
