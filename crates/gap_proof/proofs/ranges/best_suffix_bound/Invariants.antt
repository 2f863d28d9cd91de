use Rattle.gap_proof.proofs.Common.{◌≡◌, ◌-◌, pos, length, drop, map, replicate, market_of, proposal_of, prices_of}
use Rattle.gap_proof.proofs.Common.{AreSums, ◌≤ℤ◌, least_bound}
use Rattle.gap_proof.proofs.Lemmas.{IsLeastBehind, back_bounds}
use Rattle.gap_proof.proofs.ranges.best_suffix_bound.Given as goal

abbrev pub invariant-loop-index : goal.invariant-loop-index
invariant-loop-index l = record {
  sums : AreSums (market_of l.case) (replicate (length l.rows - l.index) (pos 1))
      (drop l.index (map proposal_of l.rows)) l.sums.height l.sums.weight l.work.items;
  best : IsLeastBehind (back_bounds (market_of l.case) (map proposal_of l.rows) (prices_of l.centre) l.radius
      (length l.rows)) l.index (length l.rows) l.best.first l.best.bound;
  limit : least_bound ≤ℤ l.best.bound;
  last : l.best.last ≡ length l.rows;
  spare : l.work.spare ≡ l.fn.work.spare;
}
