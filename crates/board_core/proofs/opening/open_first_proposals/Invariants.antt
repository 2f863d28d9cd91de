use Rattle.board_core.proofs.Common.{◌≡◌, length, prices_of, with_openings}
use Rattle.board_core.proofs.opening.open_first_proposals.Given as goal

abbrev pub invariant-loop-k : goal.invariant-loop-k
invariant-loop-k l = record {
  ledger : l.ledger ≡ with_openings l.start.items l.initial.ledger l.k;
  horizon : length (prices_of l.next).energy ≡ length l.start.items;
}
