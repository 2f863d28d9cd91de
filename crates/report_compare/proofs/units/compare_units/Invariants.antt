use Rattle.report_compare.proofs.Common.{◌≡◌, ℕ, ◌+◌, ◌*◌, ◌≤◌, Result, List, map, drop, AllZip, flat_map}
use Rattle.report_compare.proofs.Common.{Schedule, units, market_of, prices_of, Fits, told_of}
use Rattle.report_compare.proofs.Common.{Compares, told_lines, Answers, answers_of, titles, told_from, WrongLine}
use Rattle.report_compare.proofs.units.compare_units.Given as goal
use Rattle.report_compare.specs.Desks.{IsDeskFor}

-- what is told of the units left is told of all
abbrev pub invariant-loop-number : goal.invariant-loop-number
invariant-loop-number l = record {
  rest : (responses : List Schedule) →
      AllZip (λ u s. Fits u (prices_of l.prices) s) (units (market_of l.case)) responses
      → (result : Result ℕ WrongLine) → (
      let a : Answers = answers_of l.fn.compare_room.earned.items l.fn.compare_room.settlement responses in
      Compares l.line result (flat_map told_lines (drop l.number (map told_of l.lines)))
      (flat_map told_lines (told_from a l.number (drop l.number (titles (market_of l.case)))))
      → Compares l.first result (flat_map told_lines (map told_of l.lines))
      (flat_map told_lines (told_from a 0 (titles (market_of l.case)))));
  compare_room : IsDeskFor (market_of l.case) l.compare_room;
  earned : l.compare_room.earned ≡ l.fn.compare_room.earned;
  settlement : l.compare_room.settlement ≡ l.fn.compare_room.settlement;
  line : l.line ≤ l.first + 4 * l.number;
}
