use Rattle.convex_search.proofs.Common.{market_of}
use Rattle.bundle_columns.specs.Pools.{IsPool, places_in}
use Rattle.convex_search.proofs.short.leave_out_light_columns.Given as goal

abbrev pub invariant-loop-number : goal.invariant-loop-number
invariant-loop-number l = IsPool (market_of l.case) (places_in l.initial.pool) l.pool
