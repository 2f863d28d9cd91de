use Rattle.board_store.proofs.Common.{◌≤◌, List, length, subst, arith, length-map, get_or-map, items_in, Block}
use Rattle.board_store.proofs.tasks.copy_bid.Goals as goal

pub copy_blocks-requires-clause-counts : goal.copy_blocks-requires-clause-counts
copy_blocks-requires-clause-counts c = λ k d lt.
    let xs = c.args.from.now.blocks.items in
    let h = c.args.from.now.valid.blocks k (items_in d) (omega (arith, lt, length-map xs items_in)) in
    subst (λ (bs : List Block). length bs ≤ 8) (get_or-map items_in xs k d (items_in d) lt) h.count
