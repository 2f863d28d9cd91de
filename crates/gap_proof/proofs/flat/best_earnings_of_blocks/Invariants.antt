use Rattle.gap_proof.proofs.Common.{◌≡◌, ◌*◌, pos, take, IsFrom, best_bought}
use Rattle.gap_proof.proofs.flat.best_earnings_of_blocks.Given as goal

abbrev pub invariant-loop-block : goal.invariant-loop-block
invariant-loop-block l = record {
  is : l.sum ≡ best_bought (take l.block-index l.blocks) l.price;
  limit : IsFrom (pos 0) (pos (20000000000000000 * l.block-index)) l.sum;
}
