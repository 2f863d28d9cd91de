use Rattle.bundle_columns.proofs.Common.{◌≡◌, length, map, entries_of}
use Rattle.bundle_columns.proofs.Copying.{spliced}
use Rattle.bundle_columns.proofs.copies.copy_mixture.Given as goal

abbrev pub invariant-loop-number : goal.invariant-loop-number
invariant-loop-number l = record {
  so_far : map entries_of l.into.thermal.items
      ≡ spliced l.number (map entries_of l.from.thermal.items) (map entries_of l.initial.into.thermal.items);
  count : length l.into.thermal.items ≡ length l.from.thermal.items;
  weight : l.into.weight ≡ l.initial.into.weight;
}
