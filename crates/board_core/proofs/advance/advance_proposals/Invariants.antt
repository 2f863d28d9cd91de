use Rattle.board_core.proofs.Common.{◌≡◌, ◌≤◌, ◌-◌, length, unit_count, prices_of, IsLedger, sums_of, fronts_of}
use Rattle.board_core.proofs.Common.{IsRound, setup_of}
use Rattle.board_core.proofs.advance.advance_proposals.Given as goal

abbrev pub invariant-loop-ledger : goal.invariant-loop-ledger
invariant-loop-ledger l = record {
  round : IsRound (setup_of l.terms) (unit_count (setup_of l.terms).market) l.counts (sums_of l.ledger)
      (fronts_of l.ledger);
  sums : sums_of l.ledger ≡ sums_of l.initial.ledger;
  ledger : IsLedger (setup_of l.terms) l.ledger;
  opened : l.initial.ledger.opened ≤ l.ledger.opened;
  horizon : length (prices_of l.next).energy ≡ (setup_of l.terms).market.periods;
}

abbrev pub decreases-loop-ledger : goal.decreases-loop-ledger
decreases-loop-ledger l = l.terms.budget - l.ledger.closed
