use Rattle.board_core.proofs.Common.{ℕ, ap, ◌∙◌, nat_le, unit_count, rules_of, has_finished, posts, opened, events_of}
use Rattle.board_core.proofs.Common.{setup_of}
use Rattle.board_core.proofs.Lemmas.{closed_is, opened_is}
use Rattle.board_core.proofs.board.Board.is_finished.Goals as goal

pub returns : goal.returns
returns c =
    let s = c.self.inside in
    let b = setup_of s.terms in
    let h = events_of (unit_count b.market) s.store.answers s.lists.history.items in
    let I = c.self.invariant.0 in
    let o = c.opened.ensures ∙ opened_is b s.ledger I.ledger (posts h) I.rounds in
    let k = c.closed.ensures ∙ closed_is b s.ledger I.ledger (posts h) I.rounds (c.board_laws.ensures.of b) in
    ap (λ (n : ℕ). nat_le n c.closed.result) o ∙ ap (λ (n : ℕ). nat_le (opened (rules_of b) (posts h)) n) k ∙
    ap has_finished c.self.view_is
