use Rattle.answer_workers.proofs.Common.{arith}
use Rattle.answer_workers.proofs.Lemmas.{rests, seat_stays, works_on, still_of}
use Rattle.answer_workers.proofs.work.answer_tasks_until_board_ends.Goals as goal

pub loop-init : goal.loop-init
loop-init g c = (
  tt,
  tt,
  c.requires,
  rests c.args.worker.now c.requires.parts,
  (omega arith, λ k d low high. absurd (omega (arith, high))),
)

pub returns-in-Some-worker_end_from_claim_answer-clause-worked :
    goal.returns-in-Some-worker_end_from_claim_answer-clause-worked
returns-in-Some-worker_end_from_claim_answer-clause-worked g c =
    works_on c.args.worker.now c.loop.worker c.post_and_claim_or_wait_for_task-outcome.new.worker c.loop.invariant.3
    c.post_and_claim_or_wait_for_task-outcome.ensures.worked

pub returns-in-Some-worker_end_from_claim_answer-clause-ended :
    goal.returns-in-Some-worker_end_from_claim_answer-clause-ended
returns-in-Some-worker_end_from_claim_answer-clause-ended g c =
    c.in-Some-worker_end_from_claim_answer.ensures.ended c.post_and_claim_or_wait_for_task-outcome.new.worker
    c.post_and_claim_or_wait_for_task-outcome.ensures.told

pub loop-preserved : goal.loop-preserved
loop-preserved g c =
    let a = c.loop.invariant in
    let visited = c.post_and_claim_or_wait_for_task-outcome.new.worker in
    let claimed = c.post_and_claim_or_wait_for_task-outcome.ensures.worked in
    let answers = c.answer_held_tasks.ensures in
    let answered = seat_stays visited c.answer_held_tasks.new.worker answers.seat answers.parts in (
      a.0,
      a.1,
      still_of c.args.board.now visited c.answer_held_tasks.new.worker
          (still_of c.args.board.now c.loop.worker visited a.2 claimed) answered,
      works_on c.args.worker.now visited c.answer_held_tasks.new.worker
          (works_on c.args.worker.now c.loop.worker visited a.3 claimed) answered,
      answers.answered,
    )
