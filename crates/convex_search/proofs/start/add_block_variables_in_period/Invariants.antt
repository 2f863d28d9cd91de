use Rattle.convex_search.proofs.Common.{◌≤◌, market_of}
use Rattle.convex_search.specs.Starting.{IsProblem}
use Rattle.convex_search.proofs.start.add_block_variables_in_period.Given as goal

abbrev pub invariant-loop-block : goal.invariant-loop-block
invariant-loop-block l = record {
  problem : IsProblem (market_of l.case) l.initial.master.places l.master;
  room : l.left ≤ l.master.room;
}
