use Rattle.board_share.proofs.Common.{◌∙◌, ◌≡◌, refl, ap, claim_answer, after_claim, claim_of}
use Rattle.board_share.proofs.Common.{LeavesTask, View, Mine, Content}
use Rattle.board_share.proofs.Lemmas.{call_tells, handed, in_hand, seen_before, legal_after, claim_goes_on}
use Rattle.board_share.proofs.shared.SharedBoard.claim_task_in_turn.Goals as goal

pub finish-requires-clause-turn : goal.finish-requires-clause-turn
finish-requires-clause-turn g c = let t = c.wait_for_turn_of_ticket.ensures.taken in
    (t.1.2.0, ap (λ (x : View). x.stage) t.1.2.1)

pub finish-requires-clause-hand : goal.finish-requires-clause-hand
finish-requires-clause-hand g c =
    let d = c.draw_turn_ticket-ticket.ensures.drawn in
    let t = c.wait_for_turn_of_ticket.ensures.taken in
    handed c.args.seat.now.me c.draw_turn_ticket-ticket.new.seat.me c.wait_for_turn_of_ticket.new.seat.me _ d.0
    c.args.caller t.0
    c.slot_mut-board.result.now c.claim-answer.new.self (λ b. after_claim b c.args.caller)
    c.history-after.result.now
    c.requires.ready.2 d.2 t.1 c.slot_mut-board.ensures.value c.claim-answer.ensures.after
    (claim_goes_on c.slot_mut-board.result.now c.args.caller) refl c.history-after.ensures.entries

pub returns-clause-called : goal.returns-clause-called
returns-clause-called g c = let d = c.draw_turn_ticket-ticket.ensures.drawn in let t =
    c.wait_for_turn_of_ticket.ensures.taken in
    call_tells (λ b. (c.claim-answer.result ≡ claim_of (claim_answer b)) ×
    LeavesTask b (claim_answer b) c.args.into.now c.claim-answer.new.into)
    (λ b. after_claim b c.args.caller) c.args.seat.now.me c.draw_turn_ticket-ticket.new.seat.me
    c.wait_for_turn_of_ticket.new.seat.me
    c.finish.new.seat.me _ d.0 t.0 c.slot_mut-board.result.now c.claim-answer.new.self c.requires.ready.0 d.2 t.1
    c.slot_mut-board.ensures.value (c.claim-answer.ensures.answer, c.claim-answer.ensures.task)
    c.claim-answer.ensures.after c.finish.ensures.given

pub wait_for_turn_of_ticket-requires-clause-own : goal.wait_for_turn_of_ticket-requires-clause-own
wait_for_turn_of_ticket-requires-clause-own g c = c.draw_turn_ticket-ticket.ensures.same.0 ∙ c.requires.own

pub wait_for_turn_of_ticket-requires-clause-ready : goal.wait_for_turn_of_ticket-requires-clause-ready
wait_for_turn_of_ticket-requires-clause-ready g c = let d = c.draw_turn_ticket-ticket.ensures.drawn in
    (c.draw_turn_ticket-ticket.ensures.same.2 ∙ c.requires.ready.1, (d.0, ap (λ (x : View). x.stage) d.2, d.1))

pub slot_mut-board-requires : goal.slot_mut-board-requires
slot_mut-board-requires g c = (
  c.wait_for_turn_of_ticket.ensures.same.0 ∙ (c.draw_turn_ticket-ticket.ensures.same.0 ∙ c.requires.own),
  in_hand c.draw_turn_ticket-ticket.new.seat.me c.wait_for_turn_of_ticket.new.seat.me
      c.wait_for_turn_of_ticket.ensures.taken.0 c.wait_for_turn_of_ticket.ensures.taken.1,
)

pub finish-requires-clause-own : goal.finish-requires-clause-own
finish-requires-clause-own g c = c.wait_for_turn_of_ticket.ensures.same.0 ∙
    (c.draw_turn_ticket-ticket.ensures.same.0 ∙ c.requires.own)

pub finish-requires-clause-before : goal.finish-requires-clause-before
finish-requires-clause-before g c = seen_before c.draw_turn_ticket-ticket.new.seat.me
    c.wait_for_turn_of_ticket.new.seat.me _
    c.wait_for_turn_of_ticket.ensures.taken.0 c.slot_mut-board.result.now c.history-before.result.now
    c.wait_for_turn_of_ticket.ensures.taken.1
    c.slot_mut-board.ensures.value c.history-before.ensures.entries

pub returns-clause-same : goal.returns-clause-same
returns-clause-same g c = (
  c.finish.ensures.same.0 ∙ (c.wait_for_turn_of_ticket.ensures.same.0 ∙ c.draw_turn_ticket-ticket.ensures.same.0),
  c.finish.ensures.same.1 ∙ (c.wait_for_turn_of_ticket.ensures.same.1 ∙ c.draw_turn_ticket-ticket.ensures.same.1),
  ap (λ (m : Mine). m.1) c.finish.ensures.given,
)

pub returns-clause-legal : goal.returns-clause-legal
returns-clause-legal g c = legal_after c.args.seat.now.me c.draw_turn_ticket-ticket.new.seat.me
    c.wait_for_turn_of_ticket.new.seat.me
    c.finish.new.seat.me _ c.draw_turn_ticket-ticket.ensures.drawn.0 c.wait_for_turn_of_ticket.ensures.taken.0
    c.slot_mut-board.result.now
    c.claim-answer.new.self c.draw_turn_ticket-ticket.ensures.drawn.2 c.wait_for_turn_of_ticket.ensures.taken.1
    c.slot_mut-board.ensures.value
    (ap (λ (b : Content). b.setup) c.claim-answer.ensures.after) c.finish.ensures.given c.history-after.ensures.legal
