use Rattle.test_whole.proofs.Common.{◌≡◌, ◌≤◌, length, market_of, AreFor}
use Rattle.test_whole.proofs.dealt_rows.jobs_for.Given as goal

abbrev pub invariant-loop : goal.invariant-loop
invariant-loop l = record {
  count : length l.jobs.items ≡ l.counter;
  within : l.counter ≤ l.count;
  jobs : AreFor (market_of l.case) l.jobs.items;
}
