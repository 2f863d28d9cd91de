use Rattle.board_share.proofs.Lemmas.{claim_seen}
use Rattle.board_share.proofs.shared.SharedBoard.claim.Goals as goal

pub returns-clause-unchanged : goal.returns-clause-unchanged
returns-clause-unchanged g c =
    claim_seen c.seat.inside.caller c.seat.inside.at_table.me.0 c.claim_task_in_turn.new.seat.me.0
    c.claim_task_in_turn.result
    c.args.into.now c.claim_task_in_turn.new.into c.claim_task_in_turn.ensures.called
