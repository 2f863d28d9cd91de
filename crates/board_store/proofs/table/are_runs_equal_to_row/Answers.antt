use Rattle.board_store.proofs.Common.{◌+◌, refl, arith, false≢true}
use Rattle.board_store.proofs.Lemmas.{told_no, told_yes, later_whole, run_here}
use Rattle.board_store.proofs.table.are_runs_equal_to_row.Goals as goal

pub returns-then-not-are_cells_all : goal.returns-then-not-are_cells_all
returns-then-not-are_cells_all g c =
    let l = c.loop-seen in
    let m = c.min.result in
    let no = told_no c.args.lengths.now c.args.values.now l.at c.args.row.now l.seen m (l.seen + m)
    c.index-values-at.result c.requires.pairs (omega (arith, c.loop-seen-test.true)) l.invariant.whole
    c.index-values-at.is c.min.ensures refl in
    (λ yes. absurd (false≢true yes), λ is. c.if-not-are_cells_all.ensures.1 (no (l.invariant.told.0 is)))

pub loop-seen-preserved : goal.loop-seen-preserved
loop-seen-preserved g c =
    let l = c.loop-seen in
    let m = c.min.result in
    let t = told_yes c.args.lengths.now c.args.values.now l.at c.args.row.now l.seen m (l.seen + m)
    c.index-values-at.result c.requires.pairs (omega (arith, c.loop-seen-test.true)) l.invariant.whole
    c.index-values-at.is c.min.ensures refl (c.if-not-are_cells_all.ensures.0 refl) in
    record {
      whole =
          later_whole c.args.lengths.now c.args.values.now l.at c.args.row.now l.seen m (l.seen + m)
          c.index-values-at.result c.requires.pairs (omega (arith, c.loop-seen-test.true)) l.invariant.whole
          c.index-values-at.is c.min.ensures refl;
      told = (λ is. t.0 (l.invariant.told.0 is), λ there. l.invariant.told.1 (t.1 there));
    }

pub bounds-lengths-at : goal.bounds-lengths-at
bounds-lengths-at g c =
    run_here c.loop-seen.at c.args.lengths.now c.args.values.now c.requires.pairs
    (omega (arith, c.loop-seen-test.true, c.loop-seen.invariant.whole))
