use Rattle.bundle_columns.proofs.Common.{◌≡◌, length, entries_of, AreShares, most_whole, StaysKept}
use Rattle.bundle_columns.proofs.weights.redistribute_entry_weights.Given as goal

abbrev pub invariant-loop-index : goal.invariant-loop-index
invariant-loop-index l = record {
  stays : StaysKept (entries_of l.initial.entries) (entries_of l.entries);
  shares : AreShares most_whole (entries_of l.entries);
  count : length l.entries.items ≡ length l.initial.entries.items;
}
