use Rattle.test_units.proofs.Common.{◌≡◌, ℕ, ◌<◌, ◌≤◌, length, get_or, None}
use Rattle.test_units.proofs.costs.clear_before.Given as goal

abbrev pub invariant-loop-index : goal.invariant-loop-index
invariant-loop-index l = record {
  before : (k : ℕ) → k < l.index → get_or l.into.items k None ≡ None;
  others : (k : ℕ) → l.index ≤ k → get_or l.into.items k None ≡ get_or l.initial.into.items k None;
  length : length l.into.items ≡ length l.initial.into.items;
}
