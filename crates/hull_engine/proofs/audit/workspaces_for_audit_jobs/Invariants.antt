use Rattle.hull_engine.proofs.Common.{◌≡◌, ◌≤◌, length, All, market_of, IsBenchOver}
use Rattle.hull_engine.proofs.audit.workspaces_for_audit_jobs.Given as goal

abbrev pub invariant-loop : goal.invariant-loop
invariant-loop l = record {
  count : length l.benches.items ≡ l.counter;
  within : l.counter ≤ l.count;
  benches : All (IsBenchOver (market_of l.case)) l.benches.items;
}
