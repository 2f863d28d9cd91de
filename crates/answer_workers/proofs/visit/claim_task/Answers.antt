use Rattle.answer_workers.proofs.Common.{view_of}
use Rattle.answer_workers.proofs.Lemmas.{claim_goes, parts_after}
use Rattle.answer_workers.proofs.Told.{told}
use Rattle.answer_workers.proofs.visit.claim_task.Goals as goal

pub returns-clause-worked : goal.returns-clause-worked
returns-clause-worked g c = record {
  board = c.claim.ensures.board;
  goes = claim_goes _ (view_of c.args.worker.now.seat) (view_of c.claim.new.seat) c.claim.ensures.call;
  parts = parts_after c.args.worker.now c.claim.new.seat c.claim.new.into c.claim.ensures.board c.requires.parts
      c.claim.ensures.room;
}

pub returns-clause-told : goal.returns-clause-told
returns-clause-told g c =
    told c.claim_answers_tell_board_state.ensures c.claim.result c.args.worker.now.task _
    (view_of c.args.worker.now.seat)
    (record c.args.worker.now { seat = c.claim.new.seat; task = c.claim.new.into }) c.claim.ensures.call
    c.claim.ensures.unchanged
