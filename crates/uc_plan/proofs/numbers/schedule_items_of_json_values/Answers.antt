use Rattle.uc_plan.proofs.Common.{sym, arith, counted}
use Rattle.uc_plan.proofs.Lemmas.{number_goes_on, number_ends, numbers_done, numbers_begin}
use Rattle.uc_plan.proofs.numbers.schedule_items_of_json_values.Goals as goal

pub loop-branch-init : goal.loop-branch-init
loop-branch-init g c = record {
  count = rw c.in_ok-list.ensures.empty (omega arith);
  room = omega (arith, c.in_ok-list.ensures.room);
  so_far = rw c.in_ok-list.ensures.empty (numbers_begin g.I.Item.reading c.args.at c.args.branches.now);
}

pub returns-in_default-clause-value : goal.returns-in_default-clause-value
returns-in_default-clause-value g c =
    number_ends c.stop.result g.I.Item.reading c.args.at c.args.branches.now c.loop-branch.branch-index
    c.branch-item.result c.loop-branch.list.items c.len.result c.loop-branch-test.true
    c.branch-item.is (sym c.in_default.ensures)
    c.len.ensures c.stop.ensures c.loop-branch.invariant.so_far

pub loop-branch-preserved : goal.loop-branch-preserved
loop-branch-preserved g c = record {
  count = counted c.loop-branch.list.items c.push.new.self.items c.in-Some.item c.loop-branch.branch-index
      c.push.ensures.items c.loop-branch.invariant.count;
  room = omega (arith, c.push.ensures.spare, c.loop-branch.invariant.room);
  so_far = rw c.push.ensures.items (number_goes_on g.I.Item.reading c.args.at c.args.branches.now
      c.loop-branch.branch-index c.branch-item.result c.loop-branch.list.items c.in-Some.item
      c.loop-branch-test.true c.branch-item.is
      (sym c.in-Some.ensures) c.loop-branch.invariant.so_far);
}

pub returns-clause-value : goal.returns-clause-value
returns-clause-value g c = numbers_done g.I.Item.reading c.args.at c.args.branches.now c.loop-branch.branch-index
    c.loop-branch.list.items c.loop-branch-test.false c.loop-branch.invariant.so_far
