use Rattle.board_store.proofs.Common.{◌+◌, ◌-◌, ◌≤◌, List, ◌++◌, take, replicate, sym, ap, ◌∙◌, arith, append_assoc}
use Rattle.board_store.proofs.Common.{from_run}
use Rattle.board_store.proofs.Lemmas.{taken, still_whole, run_here}
use Rattle.board_store.proofs.table.expand_runs_into_row.Goals as goal

pub loop-left-preserved : goal.loop-left-preserved
loop-left-preserved g c =
    let l = c.loop-left in
    let m = c.min-count.result in
    let v = c.index-values-at.result in
    let ls = c.args.lengths.now in
    let vs = c.args.values.now in
    let rest = take (l.left - m) (from_run ls vs (l.at + 1)) in
    let some : 1 ≤ l.left = omega (arith, c.loop-left-test.true) in
    record {
      whole = still_whole ls vs l.at l.left m v c.requires.pairs some l.invariant.whole c.index-values-at.is
          c.min-count.ensures;
      room = omega (arith, l.invariant.room, c.push_copies_of_value.ensures.spare);
      so_far =
          ap (λ (xs : List _). xs ++ rest) c.push_copies_of_value.ensures.items
          ∙ append_assoc l.into.items (replicate m v) rest
          ∙ ap (λ (xs : List _). l.into.items ++ xs)
          (sym (taken ls vs l.at l.left m v c.requires.pairs some l.invariant.whole c.index-values-at.is
          c.min-count.ensures))
          ∙ l.invariant.so_far;
    }

pub bounds-lengths-at : goal.bounds-lengths-at
bounds-lengths-at g c =
    run_here c.loop-left.at c.args.lengths.now c.args.values.now c.requires.pairs
    (omega (arith, c.loop-left-test.true, c.loop-left.invariant.whole))
