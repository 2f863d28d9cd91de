use Rattle.convex_search.proofs.Common.{market_of, IsSearch, places_in}
use Rattle.convex_search.proofs.rounds.make_rounds.Given as goal

abbrev pub invariant-loop-made : goal.invariant-loop-made
invariant-loop-made l = IsSearch (market_of l.case) (places_in l.initial.search.pool) l.search
