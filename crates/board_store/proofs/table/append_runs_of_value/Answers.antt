use Rattle.board_store.proofs.Common.{List, length, ap, ◌∙◌, arith, length-append, ◌∷◌, [], replicate, ◌≡◌, zero}
use Rattle.board_store.proofs.Lemmas.{adding_none, adding_run, adding_done}
use Rattle.board_store.proofs.table.append_runs_of_value.Goals as goal

pub loop-left-init : goal.loop-left-init
loop-left-init g c = record {
  so_far = adding_none c.args.lengths.now.items c.args.values.now.items (replicate c.args.count c.args.value)
      c.requires.pairs;
  few = omega arith;
  lengths_room = omega arith;
  values_room = omega arith;
}

pub loop-left-preserved : goal.loop-left-preserved
loop-left-preserved g c =
    let l = c.loop-left in
    let m = c.min-length.result in
    let a = ap (λ (xs : List _). length xs) c.push_reserved.ensures.items ∙ length-append l.lengths.items (m ∷ []) in
    record {
      so_far =
          adding_run c.args.lengths.now.items c.args.values.now.items l.lengths.items l.values.items
          (replicate c.args.count c.args.value) m l.left c.args.value l.invariant.so_far
          (omega (arith, c.min-length.ensures)) _ _ c.push_reserved.ensures.items
          c.push_reserved-in-loop-left.ensures.items;
      few = omega (arith, a, l.invariant.few, c.min-length.ensures, c.loop-left-test.true);
      lengths_room = omega (arith, l.invariant.lengths_room, c.push_reserved.ensures.capacity);
      values_room = omega (arith, l.invariant.values_room, c.push_reserved-in-loop-left.ensures.capacity);
    }

pub returns-clause-added : goal.returns-clause-added
returns-clause-added g c =
    let l = c.loop-left in
    let none : l.left ≡ zero = omega (arith, c.loop-left-test.false) in
    adding_done c.args.lengths.now.items c.args.values.now.items l.lengths.items l.values.items
    (replicate c.args.count c.args.value) (replicate l.left c.args.value) l.invariant.so_far
    (ap (λ (k : _). replicate k c.args.value) none)
