use Rattle.uc_prices.proofs.Common.{◌≡◌, ◌+◌, ◌≤◌, length, drop, All, IsPriceOf, views, each, prices}
use Rattle.uc_prices.proofs.Loops.{one_price}
use Rattle.uc_prices.proofs.entries.read_entries.Given as goal

abbrev pub invariant-loop-branch : goal.invariant-loop-branch
invariant-loop-branch l = record {
  count : length l.numbers.items ≡ l.branch-index;
  room : length l.branches ≤ l.numbers.spare + l.branch-index;
  fits : All (IsPriceOf l.at.field) l.numbers.items;
  so_far : each (one_price l.at) l.numbers.items (views (drop l.branch-index l.branches)) ≡ prices l.at
      (views l.branches);
}
