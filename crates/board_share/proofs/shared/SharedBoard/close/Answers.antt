use Rattle.board_share.proofs.Common.{◌≡◌, length, sym, ap, subst, ◌∙◌, some-injective, Content, IsLegalHistory}
use Rattle.board_share.proofs.Common.{SeatValue, content}
use Rattle.board_share.proofs.Ends.{ends_with}
use Rattle.board_share.proofs.shared.SharedBoard.close.Goals as goal
use Rattle.board_share.proofs.shared.SharedBoard.close.Goals.{After-close}

closed_as : (c : After-close) → c.close.result ≡ content c.args.seat.view.setup c.args.seat.view.seen
closed_as c =
    let s = c.seat in
    let v = s.inside.at_table.me.0 in
    let who : v.caller ≡ 0 = ap (λ (x : SeatValue). x.view.caller) s.view_is ∙ c.requires.own.1 in
    let alone : length v.out ≡ 1 = ap (λ (x : SeatValue). length x.view.out) s.view_is ∙ c.requires.alone in
    let e = ends_with _ _ _ _ _ c.close_with-closed.ensures.values.2
    (s.invariant.of_owner (sym s.invariant.of_caller ∙ who)).0 s.invariant.at_rest alone in
    c.close.ensures ∙ (some-injective _ _ (sym c.take-board.ensures.value ∙ e) ∙
    ap (λ (x : SeatValue). content x.view.setup x.view.seen) s.view_is)

pub returns-clause-content : goal.returns-clause-content
returns-clause-content c = closed_as (goal.at.returns-clause-content c).After-close

pub returns-clause-legal : goal.returns-clause-legal
returns-clause-legal c =
    let s = c.seat in
    let legal = subst (λ (x : SeatValue). IsLegalHistory x.view.setup x.view.seen) s.view_is s.invariant.legal in
    subst (λ (x : Content). IsLegalHistory x.setup x.events)
    (sym (closed_as (goal.at.returns-clause-legal c).After-close)) legal
