use Rattle.uc_field.proofs.Common.{map, arith, map_push, err_from_is_err_and, IsBlockList, items_in, view, views}
use Rattle.uc_field.proofs.Common.{item_at, position, items, period_blocks, counted, is_done, All-push}
use Rattle.uc_field.proofs.Lemmas.{period_goes_on, period_ends}
use Rattle.uc_field.proofs.blocks.read_blocks_of_periods_into.Goals as goal

pub returns-in_err-blocks-clause-value : goal.returns-in_err-blocks-clause-value
returns-in_err-blocks-clause-value c =
    let p = err_from_is_err_and c.from_residual.result c.from_residual.ensures.1 in
    rw (p.1, p.2) (period_ends c.in_err-blocks.field-0.0 c.args.at c.item-site.result c.args.branches.now
    c.loop-branch.branch-index c.branch-item.result c.loop-branch.lists.items c.len.result
    (items period_blocks c.args.at (views c.args.branches.now)) c.loop-branch-test.true c.branch-item.is
    c.item-site.ensures c.len.ensures c.in_err-blocks.ensures.value c.loop-branch.invariant.so_far)

pub loop-branch-preserved : goal.loop-branch-preserved
loop-branch-preserved c = record {
  count = counted c.loop-branch.lists.items c.push.new.self.items c.in_ok-blocks.blocks c.loop-branch.branch-index
      c.push.ensures.items c.loop-branch.invariant.count;
  room = omega (arith, c.push.ensures.spare, c.loop-branch.invariant.room);
  fits = rw (c.push.ensures.items, map_push items_in c.loop-branch.lists.items c.in_ok-blocks.blocks)
      (All-push (λ bs. IsBlockList bs) (map items_in c.loop-branch.lists.items) (items_in c.in_ok-blocks.blocks)
      c.loop-branch.invariant.fits c.in_ok-blocks.ensures.fits);
  so_far = rw c.push.ensures.items
      (period_goes_on c.args.at c.item-site.result c.args.branches.now c.loop-branch.branch-index c.branch-item.result
      c.loop-branch.lists.items c.len.result c.in_ok-blocks.blocks
      (items period_blocks c.args.at (views c.args.branches.now)) c.loop-branch-test.true c.branch-item.is
      c.item-site.ensures c.len.ensures c.in_ok-blocks.ensures.value c.loop-branch.invariant.so_far);
}

pub returns-clause-value : goal.returns-clause-value
returns-clause-value c = is_done (λ before. period_blocks (item_at c.args.at (position before)) before) view
    c.args.branches.now c.loop-branch.branch-index (map items_in c.loop-branch.lists.items)
    (items period_blocks c.args.at (views c.args.branches.now)) c.loop-branch-test.false c.loop-branch.invariant.so_far
