use Rattle.plan_check.proofs.Common.{◌≡◌, ℕ, ◌<◌, None, market_of, schedules_of, reserve_broken}
use Rattle.plan_check.proofs.check.check_reserve.Given as goal

abbrev pub invariant-loop-index : goal.invariant-loop-index
invariant-loop-index l = (k : ℕ) → k < l.index → reserve_broken (market_of l.case) (schedules_of l.plan) k ≡ None
