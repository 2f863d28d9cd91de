use Rattle.report_read.proofs.Common.{◌≡◌, ◌-◌, ◌≤◌, map, told_of, units_at}
use Rattle.report_read.proofs.LineLoops.{with_front}
use Rattle.report_read.proofs.units.read_units.Given as goal

abbrev pub invariant-loop : goal.invariant-loop
invariant-loop l = record {
  reads : with_front (map told_of l.lines.items) (units_at l.periods l.least (l.count - l.counter) l.reader.rest.now)
      ≡ units_at l.periods 0 l.count l.fn.reader.rest.now;
  room : l.count - l.counter ≤ l.lines.spare;
}
