use Rattle.test_units.proofs.Common.{◌≡◌, length, thermal_of, net_at}
use Rattle.test_units.proofs.Lemmas.{IsUpdateSoFar}
use Rattle.test_units.proofs.spells.add_spells.Given as goal

abbrev pub invariant-loop-last : goal.invariant-loop-last
invariant-loop-last l = record {
  update : IsUpdateSoFar (thermal_of l.unit) l.periods l.first l.entry.last l.entry.cost (net_at l.costs)
      l.fn.table.items l.last l.table.items;
  length_is : length l.table.items ≡ length l.fn.table.items;
}
