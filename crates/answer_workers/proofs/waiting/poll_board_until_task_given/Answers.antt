use Rattle.answer_workers.proofs.Lemmas.{rests, works_on, still_of}
use Rattle.answer_workers.proofs.waiting.poll_board_until_task_given.Goals as goal

pub loop-preserved : goal.loop-preserved
loop-preserved g c =
    let a = c.loop.invariant in
    let claimed = c.post_answers_and_claim_tasks-outcome.ensures.worked in (
      a.0,
      a.1,
      still_of c.args.board.now c.loop.worker c.post_answers_and_claim_tasks-outcome.new.worker a.2 claimed,
      works_on c.args.worker.now c.loop.worker c.post_answers_and_claim_tasks-outcome.new.worker a.3 claimed,
    )

pub loop-init : goal.loop-init
loop-init g c = (tt, tt, c.requires, rests c.args.worker.now c.requires.parts)

pub returns-then-outcome-gt0-clause-worked : goal.returns-then-outcome-gt0-clause-worked
returns-then-outcome-gt0-clause-worked g c =
    works_on c.args.worker.now c.loop.worker c.post_answers_and_claim_tasks-outcome.new.worker c.loop.invariant.3
    c.post_answers_and_claim_tasks-outcome.ensures.worked
