use Rattle.test_units.proofs.Common.{◌≡◌, ℕ, suc, ◌<◌, ◌≤◌, MustOff, mark_in}
use Rattle.test_units.proofs.spells.before_must_off.Given as goal

abbrev pub invariant-loop-index : goal.invariant-loop-index
invariant-loop-index l = (k : ℕ) → l.from ≤ k → k < l.index → mark_in l.marks (suc k) ≡ MustOff → ⊥
