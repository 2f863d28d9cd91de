use Rattle.report_read.proofs.Common.{◌≡◌, ◌-◌, length, closed_within}
use Rattle.report_read.proofs.Loops.{with_front}
use Rattle.report_read.proofs.names.parse_name_to_closing_quote.Given as goal

abbrev pub invariant-loop : goal.invariant-loop
invariant-loop l = with_front l.name.items (closed_within (length l.bytes - l.counter) l.rest) ≡ closed_within
    (length l.bytes) l.bytes
