use Rattle.bundle_columns.proofs.Common.{◌≡◌, ◌+◌, ◌≤◌, length, map, take, entries_of}
use Rattle.bundle_columns.specs.Written.{weighed_of}
use Rattle.bundle_columns.proofs.written.mixture_without_zero_weights.Given as goal

abbrev pub invariant-loop-number : goal.invariant-loop-number
invariant-loop-number l = record {
  so_far : map entries_of l.thermal.items ≡ map weighed_of (take l.number (map entries_of l.from.thermal.items));
  room : length l.case.thermal.items ≤ l.number + l.thermal.spare;
}
