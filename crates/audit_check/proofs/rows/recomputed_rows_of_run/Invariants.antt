use Rattle.audit_check.proofs.Common.{◌≡◌, ◌+◌, ◌≤◌, map, length, market_of, proposal_of, AreFor, IsRunSoFar}
use Rattle.audit_check.proofs.rows.recomputed_rows_of_run.Given as goal

abbrev pub invariant-loop : goal.invariant-loop
invariant-loop g l = record {
  run : IsRunSoFar (market_of l.case) l.cost l.ahead (map proposal_of l.rows.items);
  long : length l.rows.items ≡ l.counter;
  within : l.counter ≤ l.budget;
  room : l.budget ≤ l.counter + l.rows.spare;
  count : length l.jobs.items ≡ length l.initial.jobs.items;
  jobs : AreFor (market_of l.case) l.jobs.items;
}
