use Rattle.board_share.proofs.Common.{◌≡◌, ℕ, subst, sym, ap, ◌∙◌, Content, post_answer, after_post, task_unit}
use Rattle.board_share.proofs.Common.{prices_of, posted_of, answer_of, SeatValue, Called, UnlessTaken, View, content}
use Rattle.board_share.proofs.Lemmas.{post_seen}
use Rattle.board_share.proofs.shared.SharedBoard.post.Goals as goal

pub returns-clause-call : goal.returns-clause-call
returns-clause-call g c =
    let t = c.args.task.now in
    let ρ = prices_of t.prices in
    let x = task_unit t in
    let a = answer_of c.args.answer.now in
    let s = c.seat in
    let w = c.post_answer_in_turn.new.seat.me.0 in
    let r = c.post_answer_in_turn.result in
    let known : s.inside.at_table.me.0 ≡ c.args.seat.now.view = ap (λ (y : SeatValue). y.view) s.view_is in
    let caller : s.inside.caller ≡ c.args.seat.now.view.caller =
    sym s.invariant.of_caller ∙ ap (λ (v : View). v.caller) known in
    subst
    (λ (z : ℕ × View). Called (λ b. r ≡ posted_of (post_answer b z.0 t.proposal t.unit ρ x a))
    (λ b. after_post b z.0 t.proposal t.unit ρ x a) z.1 w)
    (λ i. (caller i, known i)) c.post_answer_in_turn.ensures.called

pub returns-clause-unchanged : goal.returns-clause-unchanged
returns-clause-unchanged g c =
    let t = c.args.task.now in
    let ρ = prices_of t.prices in
    let x = task_unit t in
    let a = answer_of c.args.answer.now in
    let s = c.seat in
    let w = c.post_answer_in_turn.new.seat.me.0 in
    let r = c.post_answer_in_turn.result in
    let b : Content = content w.setup w.seen in
    let caller : s.inside.caller ≡ c.args.seat.now.view.caller =
    sym s.invariant.of_caller ∙ ap (λ (y : SeatValue). y.view.caller) s.view_is in
    subst (λ (k : ℕ). UnlessTaken r (r ≡ posted_of (post_answer b k t.proposal t.unit ρ x a))) caller
    (post_seen s.inside.caller t.proposal t.unit ρ x a s.inside.at_table.me.0 w r c.post_answer_in_turn.ensures.called)
