use Rattle.board_core.proofs.Common.{List, length, ap, ◌∙◌, arith, length-map, unit_count, proposal_of, Proposal}
use Rattle.board_core.proofs.Common.{own_rows, events_of, setup_of}
use Rattle.board_core.proofs.Lemmas.{rows_few}
use Rattle.board_core.proofs.board.Board.rows.Goals as goal

pub returns-clause-rows : goal.returns-clause-rows
returns-clause-rows c = c.rows.ensures ∙ c.self.invariant.0.rounds.rows_are ∙ ap own_rows c.self.view_is

pub returns-clause-count : goal.returns-clause-count
returns-clause-count c =
    let s = c.self.inside in
    let b = setup_of s.terms in
    let h = events_of (unit_count b.market) s.store.answers s.lists.history.items in
    let few = rows_few b h _ s.ledger c.self.invariant.0 in
    let e = ap (λ (xs : List Proposal). length xs) c.rows.ensures in
    omega (arith, few, e, length-map c.rows.result.now proposal_of)
