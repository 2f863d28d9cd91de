use Rattle.uc_field.proofs.Common.{◌≡◌, ◌+◌, ◌≤◌, [], length, drop, views, each}
use Rattle.uc_field.proofs.items.read_items_into.Given as goal

abbrev pub invariant-loop-branch : goal.invariant-loop-branch
invariant-loop-branch g l = record {
  count : length l.list.items ≡ l.branch-index;
  room : length l.branches ≤ l.list.spare + l.branch-index;
  fits : g.I.Item.Keeps l.list.items;
  so_far : each (g.I.Item.reading l.at) l.list.items (views (drop l.branch-index l.branches)) ≡ each
      (g.I.Item.reading l.at) [] (views l.branches);
}
