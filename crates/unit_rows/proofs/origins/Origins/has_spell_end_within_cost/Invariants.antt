use Rattle.unit_rows.proofs.Common.{◌≡◌, ℕ, ◌<◌, Some, pos, ◌+ℤ◌, ◌≤ℤ◌, slice_get, Origin}
use Rattle.unit_rows.proofs.origins.Origins.has_spell_end_within_cost.Given as goal

abbrev pub invariant-loop-index : goal.invariant-loop-index
invariant-loop-index l = (i : ℕ) (o : Origin) → i < l.index → slice_get l.self.list.items i ≡ Some o →
    (l.limit +ℤ pos 1) ≤ℤ o.cost
