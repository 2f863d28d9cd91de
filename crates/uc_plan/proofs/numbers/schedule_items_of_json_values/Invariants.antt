use Rattle.uc_plan.proofs.Common.{◌≡◌, ◌+◌, ◌≤◌, length, drop, views, each, numbers}
use Rattle.uc_plan.proofs.Lemmas.{one_number}
use Rattle.uc_plan.proofs.numbers.schedule_items_of_json_values.Given as goal

abbrev pub invariant-loop-branch : goal.invariant-loop-branch
invariant-loop-branch g l = record {
  count : length l.list.items ≡ l.branch-index;
  room : length l.branches ≤ l.list.spare + l.branch-index;
  so_far : each (one_number g.I.Item.reading l.at) l.list.items (views (drop l.branch-index l.branches)) ≡ numbers
      g.I.Item.reading l.at (views l.branches);
}
