use Rattle.test_tiny.proofs.Common.{ℕ, ◌<◌, thermal_of, schedule_of, KeepsRulesAt}
use Rattle.test_tiny.proofs.feasible.keeps_rules.Given as goal

abbrev pub invariant-loop-index : goal.invariant-loop-index
invariant-loop-index l = (k : ℕ) → k < l.index → KeepsRulesAt (thermal_of l.unit) (schedule_of l.response) k
