use Rattle.test_parts.proofs.Common.{◌≡◌, ◌≤◌, pos, length, All, IsRowBelow, market_of, proposal_of}
use Rattle.test_parts.proofs.price_space_tests.rows_alike.Given as goal

abbrev pub invariant-loop : goal.invariant-loop
invariant-loop l = record {
  count : length l.rows.items ≡ l.counter;
  within : l.counter ≤ l.count;
  rows : All (λ row. IsRowBelow (market_of l.case) (pos 0) (proposal_of row)) l.rows.items;
}
