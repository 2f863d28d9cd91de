use Rattle.board_store.proofs.Common.{List, [], take, replicate, subst, arith, take_all, IsAdded}
use Rattle.board_store.proofs.Lemmas.{adding_none, adding_next, adding_last}
use Rattle.board_store.proofs.table.append_row.Goals as goal

pub loop-cell-init : goal.loop-cell-init
loop-cell-init g c = record {
  so_far = adding_none c.args.lengths.now.items c.args.values.now.items [] c.requires.pairs;
  few = omega arith;
  lengths_room = omega arith;
  values_room = omega arith;
}

pub loop-cell-preserved : goal.loop-cell-preserved
loop-cell-preserved g c =
    let l = c.loop-cell in
    let new = c.append_runs_of_value in
    record {
      so_far =
          adding_next c.args.lengths.now.items c.args.values.now.items l.lengths.items l.values.items c.args.row.now
          (replicate l.count l.value) l.cell-index c.cell-item.result l.invariant.so_far new.new.lengths.items
          new.new.values.items new.ensures.added (omega (arith, c.loop-cell-test.true)) c.cell-item.is;
      few = omega (arith, l.invariant.few, new.ensures.few);
      lengths_room = omega (arith, l.invariant.lengths_room, new.ensures.lengths_capacity);
      values_room = omega (arith, l.invariant.values_room, new.ensures.values_capacity);
    }

pub returns-clause-added : goal.returns-clause-added
returns-clause-added g c =
    let l = c.loop-cell in
    let row = c.args.row.now in
    let new = c.append_runs_of_value-2 in
    subst (λ (r : List _). IsAdded c.args.lengths.now.items c.args.values.now.items new.new.lengths.items
    new.new.values.items r) (take_all l.cell-index row (omega (arith, c.loop-cell-test.false)))
    (adding_last c.args.lengths.now.items c.args.values.now.items l.lengths.items l.values.items
    (take l.cell-index row) (replicate l.count l.value) l.invariant.so_far new.new.lengths.items new.new.values.items
    new.ensures.added)
