use Rattle.gap_proof.proofs.Common.{◌≡◌, ◌*◌, pos, map, take, total, NamedBidUnit, best_bought, blocks_at, IsFrom}
use Rattle.uc_model.specs.PlainCases.{market_of}
use Rattle.gap_proof.proofs.flat.best_earnings_of_all_bids.Given as goal

abbrev pub invariant-loop-number : goal.invariant-loop-number
invariant-loop-number l = record {
  is : l.sum ≡ total (map (λ (n : NamedBidUnit). best_bought (blocks_at n.unit l.index) l.price)
      (take l.number (market_of l.case).bids));
  limit : IsFrom (pos 0) (pos (20000000000000000 * l.number)) l.sum;
}
