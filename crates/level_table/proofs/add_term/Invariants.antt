use Rattle.level_table.proofs.Common.{◌≡◌, ℕ, ◌<◌, ◌≤◌, get_or, Some, ℤ, pos, ◌+ℤ◌}
use Rattle.level_table.proofs.add_term.Given as goal

abbrev pub invariant-loop-k : goal.invariant-loop-k
invariant-loop-k g l = record {
  below : (j : ℕ) → j < l.k → (t : ℤ) × (g.T.Term.added l.term (l.lo +ℤ pos j) ≡ Some t) ×
      (get_or l.values j (pos 0) ≡ get_or l.fn.values j (pos 0) +ℤ t);
  rest : (j : ℕ) → l.k ≤ j → get_or l.values j (pos 0) ≡ get_or l.fn.values j (pos 0);
}
