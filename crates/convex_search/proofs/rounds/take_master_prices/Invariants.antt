use Rattle.convex_search.proofs.Common.{market_of, IsSearch, places_in}
use Rattle.convex_search.proofs.rounds.take_master_prices.Given as goal

abbrev pub invariant-loop-row : goal.invariant-loop-row
invariant-loop-row l = IsSearch (market_of l.case) (places_in l.initial.search.pool) l.search
