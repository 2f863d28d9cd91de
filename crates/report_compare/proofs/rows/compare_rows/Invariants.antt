use Rattle.report_compare.proofs.Common.{◌≡◌, ℕ, suc, ◌+◌, ◌*◌, Result, map, drop, proposal_of, Compares, rows_lines}
use Rattle.report_compare.proofs.Common.{WrongLine}
use Rattle.report_compare.proofs.rows.compare_rows.Given as goal

-- what is told of the rows left is told of all
abbrev pub invariant-loop-index : goal.invariant-loop-index
invariant-loop-index l = record {
  rest : (result : Result ℕ WrongLine)
      → Compares l.line result (rows_lines (suc l.index) (drop l.index (map proposal_of l.mine)))
      (rows_lines (suc l.index) (drop l.index (map proposal_of l.right)))
      → Compares l.first result (rows_lines 1 (map proposal_of l.mine)) (rows_lines 1 (map proposal_of l.right));
  line : l.line ≡ l.first + 5 * l.index;
}
