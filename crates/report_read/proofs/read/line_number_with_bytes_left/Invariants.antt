use Rattle.report_read.proofs.Common.{◌≡◌, ◌-◌, ◌≤◌, suc, length, take, line_feeds}
use Rattle.report_read.proofs.read.line_number_with_bytes_left.Given as goal

abbrev pub invariant-loop-byte : goal.invariant-loop-byte
invariant-loop-byte l = record {
  counted : l.line ≡ suc (line_feeds (take l.byte-index (take (length l.bytes - l.left) l.bytes)));
  few : l.line ≤ suc l.byte-index;
}
