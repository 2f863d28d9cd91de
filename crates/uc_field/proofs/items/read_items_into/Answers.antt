use Rattle.uc_field.proofs.Common.{[], arith, err_from_is_err_and, view, views, each, counted, goes_on, ends, is_done}
use Rattle.uc_field.proofs.items.read_items_into.Goals as goal

pub returns-in_err-item-clause-value : goal.returns-in_err-item-clause-value
returns-in_err-item-clause-value g c =
    let p = err_from_is_err_and c.from_residual.result c.from_residual.ensures.1 in
    rw (p.1, p.2) (ends c.in_err-item.field-0.0 (g.I.Item.reading c.args.at) view c.args.branches.now
    c.loop-branch.branch-index c.branch-item.result c.loop-branch.list.items
    (each (g.I.Item.reading c.args.at) [] (views c.args.branches.now)) c.loop-branch-test.true c.branch-item.is
    (rw (← c.as_slice.ensures) c.in_err-item.ensures.value) c.loop-branch.invariant.so_far)

pub loop-branch-preserved : goal.loop-branch-preserved
loop-branch-preserved g c = record {
  count = counted c.loop-branch.list.items c.push.new.self.items c.in_ok-item.item c.loop-branch.branch-index
      c.push.ensures.items c.loop-branch.invariant.count;
  room = omega (arith, c.push.ensures.spare, c.loop-branch.invariant.room);
  fits = rw (c.push.ensures.items, ← c.as_slice.ensures)
      (c.in_ok-item.ensures.fits (rw c.as_slice.ensures c.loop-branch.invariant.fits));
  so_far = rw c.push.ensures.items (goes_on (g.I.Item.reading c.args.at) view c.args.branches.now
      c.loop-branch.branch-index c.branch-item.result c.loop-branch.list.items c.in_ok-item.item
      (each (g.I.Item.reading c.args.at) [] (views c.args.branches.now)) c.loop-branch-test.true c.branch-item.is
      (rw (← c.as_slice.ensures) c.in_ok-item.ensures.value) c.loop-branch.invariant.so_far);
}

pub returns-clause-value : goal.returns-clause-value
returns-clause-value g c = is_done (g.I.Item.reading c.args.at) view c.args.branches.now c.loop-branch.branch-index
    c.loop-branch.list.items (each (g.I.Item.reading c.args.at) [] (views c.args.branches.now))
    c.loop-branch-test.false c.loop-branch.invariant.so_far
