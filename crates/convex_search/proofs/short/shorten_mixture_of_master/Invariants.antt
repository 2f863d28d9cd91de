use Rattle.convex_search.proofs.Common.{◌<◌, market_of, IsSearch, places_in, IsNear}
use Rattle.convex_search.proofs.short.shorten_mixture_of_master.Given as goal

abbrev pub invariant-loop-step : goal.invariant-loop-step
invariant-loop-step l = record {
  held : IsSearch (market_of l.case) (places_in l.initial.search.pool) l.search;
  near : l.made < l.goal.rounds → IsNear l.goal.within l.search.best.bound l.search.best.value;
}
