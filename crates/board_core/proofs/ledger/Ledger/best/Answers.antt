use Rattle.board_core.proofs.Common.{◌≤◌, map, take, sym, subst, arith, IsFirstUpTo, values_of, proposal_of}
use Rattle.board_core.proofs.Common.{LedgerValue}
use Rattle.board_core.proofs.Lemmas.{first_of_taken}
use Rattle.board_core.proofs.ledger.Ledger.best.Goals as goal

pub returns : goal.returns
returns c =
    let s = c.self.inside in
    let some = subst (λ (v : LedgerValue). 1 ≤ v.closed) (sym c.self.view_is) c.requires.some in
    subst (λ (v : LedgerValue). IsFirstUpTo (values_of (take v.closed v.proposals)) v.closed s.best) c.self.view_is
    (first_of_taken (map proposal_of s.proposals.items) s.closed s.best (c.self.invariant (omega (arith, some))))
