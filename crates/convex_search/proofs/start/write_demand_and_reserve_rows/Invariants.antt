use Rattle.convex_search.proofs.Common.{◌≡◌}
use Rattle.convex_search.proofs.start.write_demand_and_reserve_rows.Given as goal

abbrev pub invariant-loop-k : goal.invariant-loop-k
invariant-loop-k l = l.master ≡ l.initial.master
