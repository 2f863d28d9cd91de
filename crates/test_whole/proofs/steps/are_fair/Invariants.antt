use Rattle.test_whole.proofs.Common.{◌≡◌, ℕ, suc, get_or, pos, neg_ℤ, ◌≤ℤ◌, Block, AreFair}
use Rattle.test_whole.proofs.steps.are_fair.Given as goal

abbrev pub invariant-loop-block : goal.invariant-loop-block
invariant-loop-block l = record {
  fair : AreFair l.blocks l.block-index;
  low : neg_ℤ (pos 1000000) ≤ℤ l.last;
  last : (i : ℕ) (d : Block) → suc i ≡ l.block-index → l.last ≡ (get_or l.blocks i d).price;
}
