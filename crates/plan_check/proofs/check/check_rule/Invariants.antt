use Rattle.plan_check.proofs.Common.{◌≡◌, ℕ, ◌<◌, None, thermal_of, schedule_of, thermal_broken}
use Rattle.plan_check.proofs.check.check_rule.Given as goal

abbrev pub invariant-loop-index : goal.invariant-loop-index
invariant-loop-index l = (k : ℕ) → k < l.index →
    thermal_broken l.rule (thermal_of l.unit) (schedule_of l.response) k ≡ None
