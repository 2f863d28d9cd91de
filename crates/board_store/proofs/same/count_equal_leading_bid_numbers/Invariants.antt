use Rattle.board_store.proofs.Common.{◌≡◌, ◌*◌, ◌<◌, ◌≤◌, ℕ, get_or, Reserved, items_in, Block}
use Rattle.board_store.proofs.Lemmas.{count_in}
use Rattle.board_store.proofs.same.count_equal_leading_bid_numbers.Given as goal

abbrev pub invariant-loop-k : goal.invariant-loop-k
invariant-loop-k l =
    ((j : ℕ) (d : Reserved Block) → j < l.k → items_in (get_or l.a.items j d) ≡ items_in (get_or l.b.items j d))
    × (l.numbers ≡ count_in l.a.items l.k) × (l.numbers ≤ 17 * l.k)
