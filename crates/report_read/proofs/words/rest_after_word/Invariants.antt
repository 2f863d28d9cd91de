use Rattle.report_read.proofs.Common.{◌≡◌, ◌≤◌, length, drop, behind_spec}
use Rattle.report_read.proofs.words.rest_after_word.Given as goal

abbrev pub invariant-loop-offset : goal.invariant-loop-offset
invariant-loop-offset l = record {
  reads : behind_spec l.word l.bytes ≡ behind_spec (drop l.offset l.word) (drop l.offset l.bytes);
  within : l.offset ≤ length l.bytes;
}
