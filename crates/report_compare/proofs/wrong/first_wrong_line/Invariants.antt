use Rattle.report_compare.proofs.Common.{◌≡◌, ◌+◌, drop, wrong_from}
use Rattle.report_compare.proofs.wrong.first_wrong_line.Given as goal

-- what is told of the rest is told of all
abbrev pub invariant-loop-is_same : goal.invariant-loop-is_same
invariant-loop-is_same l = record {
  told : wrong_from l.line (drop l.is_same-index l.same) ≡ wrong_from l.first l.same;
  line : l.line ≡ l.first + l.is_same-index;
}
