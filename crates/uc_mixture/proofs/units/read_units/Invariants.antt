use Rattle.uc_mixture.proofs.Common.{◌≡◌, ◌+◌, ◌≤◌, List, length, drop, map, All, members_in, each, units, names_of}
use Rattle.uc_mixture.proofs.Common.{WeighedSchedule, entries_of, AreEntries}
use Rattle.uc_mixture.proofs.Loops.{one_unit}
use Rattle.uc_mixture.proofs.units.read_units.Given as goal

abbrev pub invariant-loop-unit : goal.invariant-loop-unit
invariant-loop-unit l = record {
  count : length l.lists.items ≡ l.unit-index;
  room : length l.units ≤ l.lists.spare + l.unit-index;
  fits : All (λ (es : List WeighedSchedule). AreEntries l.frame.periods l.frame.whole es)
      (map entries_of l.lists.items);
  so_far : each (one_unit l.frame (members_in l.object)) (map entries_of l.lists.items)
      (names_of (drop l.unit-index l.units)) ≡ units l.frame (members_in l.object) (names_of l.units);
}
