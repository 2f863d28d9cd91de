use Rattle.unit_rows.proofs.Common.{◌≡◌, ℕ, ◌<◌, ◌≤◌, MustOn, mark_in}
use Rattle.unit_rows.proofs.commitment.last_must_on.Given as goal

abbrev pub invariant-loop-index : goal.invariant-loop-index
invariant-loop-index l = record {
  within : l.last ≤ l.index;
  marked : 1 ≤ l.last → mark_in l.marks l.last ≡ MustOn;
  later : (t : ℕ) → l.last < t → t ≤ l.index → mark_in l.marks t ≡ MustOn → ⊥;
}
