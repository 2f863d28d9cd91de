use Rattle.board_store.proofs.Common.{◌≡◌, ◌<◌, ℕ, get_or, Reserved, items_in, Block}
use Rattle.board_store.proofs.same.same_bid_blocks.Given as goal

abbrev pub invariant-loop-k : goal.invariant-loop-k
invariant-loop-k l = (j : ℕ) (d : Reserved Block) → j < l.k →
    items_in (get_or l.a.items j d) ≡ items_in (get_or l.b.items j d)
