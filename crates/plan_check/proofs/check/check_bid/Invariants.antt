use Rattle.plan_check.proofs.Common.{◌≡◌, ℕ, ◌<◌, None, bid_of, schedule_of, bid_broken}
use Rattle.plan_check.proofs.check.check_bid.Given as goal

abbrev pub invariant-loop-index : goal.invariant-loop-index
invariant-loop-index l = (k : ℕ) → k < l.index → bid_broken (bid_of l.bid) (schedule_of l.response) k ≡ None
