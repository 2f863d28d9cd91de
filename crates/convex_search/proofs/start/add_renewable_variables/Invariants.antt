use Rattle.convex_search.proofs.Common.{◌≤◌, market_of}
use Rattle.convex_search.specs.Starting.{IsProblem}
use Rattle.convex_search.proofs.start.add_renewable_variables.Given as goal

abbrev pub invariant-loop-k : goal.invariant-loop-k
invariant-loop-k l = record {
  problem : IsProblem (market_of l.case) l.initial.master.places l.master;
  room : l.left ≤ l.master.room;
}
