use Rattle.uc_mixture.proofs.Common.{◌≡◌, ◌+◌, ◌≤◌, length, drop, map, All, views, each, entries, entry_of, IsEntryIn}
use Rattle.uc_mixture.proofs.Loops.{one_entry}
use Rattle.uc_mixture.proofs.entries.read_entries.Given as goal

abbrev pub invariant-loop-branch : goal.invariant-loop-branch
invariant-loop-branch l = record {
  count : length l.entries.items ≡ l.branch-index;
  room : length l.branches ≤ l.entries.spare + l.branch-index;
  fits : All (λ e. IsEntryIn l.frame e) (map entry_of l.entries.items);
  so_far : each (one_entry l.frame l.at) (map entry_of l.entries.items)
      (views (drop l.branch-index l.branches)) ≡ entries l.frame l.at (views l.branches);
}
