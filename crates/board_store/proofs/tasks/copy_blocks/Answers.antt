use Rattle.board_store.proofs.Common.{arith}
use Rattle.board_store.proofs.Lemmas.{same_items}
use Rattle.board_store.proofs.tasks.copy_blocks.Goals as goal

pub returns-clause-blocks : goal.returns-clause-blocks
returns-clause-blocks c =
    let l = c.loop-k.invariant in
    let count = l.count in
    let test = c.loop-k-test.false in
    same_items c.loop-k.into.items c.args.from.now.items count (λ k d lt. l.so_far k d (omega (arith, lt, count, test)))
