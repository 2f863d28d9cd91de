use Rattle.convex_search.proofs.Common.{◌≡◌, market_of, IsSearch, places_in}
use Rattle.convex_search.proofs.rounds.write_centre_into_master.Given as goal

abbrev pub invariant-loop-row : goal.invariant-loop-row
invariant-loop-row l = record {
  held : IsSearch (market_of l.case) (places_in l.initial.search.pool) l.search;
  best : l.search.best ≡ l.initial.search.best;
}
