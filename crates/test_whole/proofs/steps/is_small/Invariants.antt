use Rattle.test_whole.proofs.Common.{ℕ, ◌<◌, pos, ◌-ℤ◌, IsModestAt}
use Rattle.test_whole.proofs.steps.is_small.Given as goal

abbrev pub invariant-loop-k : goal.invariant-loop-k
invariant-loop-k g l = (j : ℕ) → j < l.k → IsModestAt (g.S.Shape.function l.home l.s) (pos j -ℤ pos 1000)
