use Rattle.unit_rows.proofs.Common.{◌≡◌, ℕ, ◌-◌, ◌<◌, ◌≤◌, Some, pos, ◌+ℤ◌, ◌≤ℤ◌, slice_get, Origin}
use Rattle.unit_rows.proofs.origins.Origins.index_past_cheaper_spell_ends.Given as goal

abbrev pub invariant-loop-back : goal.invariant-loop-back
invariant-loop-back l = (i : ℕ) (a : Origin) → l.self.count - l.back ≤ i → i < l.self.count →
    slice_get l.self.list.items i ≡ Some a → (l.cost +ℤ pos 1) ≤ℤ a.cost
