use Rattle.gap_proof.proofs.Common.{◌≡◌, ◌*ℤ◌, market_of, proposal_of, slope_at}
use Rattle.gap_proof.proofs.Lemmas.{IsAddedUpTo}
use Rattle.gap_proof.proofs.planes.add_weighted_slopes_of_row.Given as goal

abbrev pub invariant-loop-index : goal.invariant-loop-index
invariant-loop-index l = record {
  added : IsAddedUpTo l.initial.slopes.items l.slopes.items
      (λ j. l.weight *ℤ slope_at (market_of l.case) (proposal_of l.row) j) l.index;
  spare : l.slopes.spare ≡ l.initial.slopes.spare;
}
