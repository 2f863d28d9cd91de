use Rattle.bundle_columns.proofs.Common.{◌+◌, ◌≤◌, length, map, take, AllZip, market_of, entries_of}
use Rattle.bundle_columns.proofs.Keeping.{AreKeptOf}
use Rattle.bundle_columns.proofs.plans.mixture_of_plan.Given as goal

abbrev pub invariant-loop-number : goal.invariant-loop-number
invariant-loop-number l = record {
  kept : AllZip (AreKeptOf (market_of l.case).periods l.places) (take l.number (market_of l.case).thermal)
      (map entries_of l.thermal.items);
  room : length l.case.thermal.items ≤ l.number + l.thermal.spare;
}
