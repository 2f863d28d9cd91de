use Rattle.bundle_columns.proofs.Common.{◌≡◌, length, entries_of}
use Rattle.bundle_columns.proofs.Copying.{spliced}
use Rattle.bundle_columns.proofs.copies.copy_mixture_entries.Given as goal

abbrev pub invariant-loop-index : goal.invariant-loop-index
invariant-loop-index l = record {
  so_far : entries_of l.into ≡ spliced l.index (entries_of l.from) (entries_of l.initial.into);
  count : length l.into.items ≡ length l.from.items;
}
