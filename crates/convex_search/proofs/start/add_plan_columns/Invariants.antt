use Rattle.convex_search.proofs.Common.{market_of, IsPool, places_in}
use Rattle.convex_search.proofs.start.add_plan_columns.Given as goal

abbrev pub invariant-loop-number : goal.invariant-loop-number
invariant-loop-number l = IsPool (market_of l.case) (places_in l.initial.pool) l.pool
