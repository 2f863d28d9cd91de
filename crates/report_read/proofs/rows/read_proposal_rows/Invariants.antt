use Rattle.report_read.proofs.Common.{◌≡◌, ◌+◌, ◌-◌, ◌*◌, ◌≤◌, length, map, min, ◌/◌, proposal_of, rows_at}
use Rattle.report_read.proofs.LineLoops.{with_front}
use Rattle.report_read.proofs.rows.read_proposal_rows.Given as goal

abbrev pub invariant-loop-place : goal.invariant-loop-place
invariant-loop-place l = record {
  reads : with_front (map proposal_of l.rows.items)
      (rows_at l.periods (l.place + 1) (l.count - l.place) l.reader.rest.now) ≡ rows_at l.periods 1 l.count
      l.fn.reader.rest.now;
  room : min (length l.fn.reader.rest.now / 50) l.count ≤ l.rows.spare + l.place;
  left : length l.reader.rest.now + 50 * l.place ≤ length l.fn.reader.rest.now;
}
