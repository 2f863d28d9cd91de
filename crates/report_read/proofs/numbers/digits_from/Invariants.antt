use Rattle.report_read.proofs.Common.{◌≡◌, drop, digits_spec}
use Rattle.report_read.proofs.numbers.digits_from.Given as goal

abbrev pub invariant-loop-offset : goal.invariant-loop-offset
invariant-loop-offset l = digits_spec l.first l.bytes ≡ digits_spec l.number (drop l.offset l.bytes)
