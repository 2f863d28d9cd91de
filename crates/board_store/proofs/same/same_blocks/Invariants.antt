use Rattle.board_store.proofs.Common.{◌≡◌, ◌<◌, ℕ, get_or, Block}
use Rattle.board_store.proofs.same.same_blocks.Given as goal

abbrev pub invariant-loop-k : goal.invariant-loop-k
invariant-loop-k l = (j : ℕ) (d : Block) → j < l.k → get_or l.a j d ≡ get_or l.b j d
