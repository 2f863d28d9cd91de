use Rattle.convex_search.proofs.Common.{market_of, IsSearch, places_in}
use Rattle.convex_search.proofs.rounds.ask_units_along_line.Given as goal

abbrev pub invariant-loop-way : goal.invariant-loop-way
invariant-loop-way l = IsSearch (market_of l.case) (places_in l.initial.search.pool) l.search
