use Rattle.uc_field.proofs.Common.{◌≡◌, ◌+◌, ◌≤◌, length, drop, map, All, IsBlockList, items_in, views, item_at, each}
use Rattle.uc_field.proofs.Common.{position, items, period_blocks}
use Rattle.uc_field.proofs.blocks.read_blocks_of_periods_into.Given as goal

abbrev pub invariant-loop-branch : goal.invariant-loop-branch
invariant-loop-branch l = record {
  count : length l.lists.items ≡ l.branch-index;
  room : length l.branches ≤ l.lists.spare + l.branch-index;
  fits : All (λ bs. IsBlockList bs) (map items_in l.lists.items);
  so_far : each (λ before. period_blocks (item_at l.at (position before)) before) (map items_in l.lists.items)
      (views (drop l.branch-index l.branches)) ≡ items period_blocks l.at (views l.branches);
}
