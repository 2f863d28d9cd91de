use Rattle.board_core.proofs.Common.{◌≡◌, List, map, take, sym, ap, ◌∙◌, take-map, proposal_of, Row, LedgerValue}
use Rattle.board_core.proofs.ledger.Ledger.rows.Goals as goal

pub returns : goal.returns
returns c =
    let s = c.self.inside in
    let e : map proposal_of (take s.closed c.deref.result.now) ≡ take s.closed (map proposal_of s.proposals.items) =
    ap (λ (xs : List Row). map proposal_of (take s.closed xs)) c.deref.ensures.value ∙
    sym (take-map proposal_of s.closed s.proposals.items) in
    e ∙ ap (λ (v : LedgerValue). take v.closed v.proposals) c.self.view_is
