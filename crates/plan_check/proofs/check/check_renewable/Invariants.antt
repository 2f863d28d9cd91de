use Rattle.plan_check.proofs.Common.{◌≡◌, ℕ, ◌<◌, None, renewable_of, schedule_of, renewable_broken}
use Rattle.plan_check.proofs.check.check_renewable.Given as goal

abbrev pub invariant-loop-index : goal.invariant-loop-index
invariant-loop-index l = (k : ℕ) → k < l.index →
    renewable_broken (renewable_of l.flat) (schedule_of l.response) k ≡ None
