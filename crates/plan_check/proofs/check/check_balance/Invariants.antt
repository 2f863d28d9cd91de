use Rattle.plan_check.proofs.Common.{◌≡◌, ℕ, ◌<◌, None, market_of, schedules_of, balance_broken}
use Rattle.plan_check.proofs.check.check_balance.Given as goal

abbrev pub invariant-loop-place : goal.invariant-loop-place
invariant-loop-place l = (k : ℕ) → k < l.place → balance_broken (market_of l.case) (schedules_of l.plan) k ≡ None
