use Rattle.unit_rows.proofs.Common.{◌≡◌, ℕ, ◌<◌, length, None, row_at}
use Rattle.unit_rows.proofs.table.clear_rows.Given as goal

abbrev pub invariant-loop-index : goal.invariant-loop-index
invariant-loop-index l = record {
  length_is : length l.table.items ≡ length l.fn.table.items;
  none : (k : ℕ) → k < l.index → row_at l.table.items k ≡ None;
}
