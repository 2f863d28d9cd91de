use Rattle.audit_check.proofs.Common.{◌≡◌, ◌+◌, length, vec_len, All, market_of, IsBenchOver, AreFor}
use Rattle.audit_check.proofs.audit.make_audit_jobs.Given as goal

abbrev pub invariant-loop-bench : goal.invariant-loop-bench
invariant-loop-bench l = record {
  count : length l.jobs.items + length l.benches.items ≡ length l.initial.benches.items;
  benches : All (IsBenchOver (market_of l.case)) l.benches.items;
  jobs : AreFor (market_of l.case) l.jobs.items;
}

abbrev pub decreases-loop-bench : goal.decreases-loop-bench
decreases-loop-bench l = vec_len l.benches
