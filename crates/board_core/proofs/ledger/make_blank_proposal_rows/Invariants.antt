use Rattle.board_core.proofs.Common.{◌≡◌, ◌≤◌, map, replicate, vec_capacity, proposal_of, blank}
use Rattle.board_core.proofs.ledger.make_blank_proposal_rows.Given as goal

abbrev pub invariant-loop : goal.invariant-loop
invariant-loop l = record {
  so_far : map proposal_of l.rows.items ≡ replicate l.counter (blank l.periods);
  room : l.count ≤ vec_capacity l.rows;
}
