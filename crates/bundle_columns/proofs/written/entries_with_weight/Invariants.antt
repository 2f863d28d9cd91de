use Rattle.bundle_columns.proofs.Common.{◌≡◌, ◌+◌, ◌≤◌, length, take, entries_of}
use Rattle.bundle_columns.specs.Written.{weighed_of}
use Rattle.bundle_columns.proofs.written.entries_with_weight.Given as goal

abbrev pub invariant-loop-index : goal.invariant-loop-index
invariant-loop-index l = record {
  so_far : entries_of l.entries ≡ weighed_of (take l.index (entries_of l.from));
  room : length l.from.items ≤ l.index + l.entries.spare;
}
