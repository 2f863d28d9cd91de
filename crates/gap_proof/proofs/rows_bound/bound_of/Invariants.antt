use Rattle.gap_proof.proofs.Common.{◌≡◌, drop, map, market_of, proposal_of, AreSums}
use Rattle.gap_proof.proofs.rows_bound.bound_of.Given as goal

abbrev pub invariant-loop-index : goal.invariant-loop-index
invariant-loop-index l = record {
  sums : AreSums (market_of l.case) (drop l.index l.weights.items) (drop l.index (map proposal_of l.rows)) l.sums.height
      l.sums.weight l.work.items;
  spare : l.work.spare ≡ l.initial.work.spare;
}
