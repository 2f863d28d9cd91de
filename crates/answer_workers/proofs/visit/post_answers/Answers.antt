use Rattle.answer_workers.proofs.Common.{◌≡◌, task_unit, prices_of, view_of, HasWorked}
use Rattle.board_store.specs.Answers.{answer_of}
use Rattle.answer_workers.proofs.Lemmas.{answered_at, post_goes, parts_posted, works_on, still_of}
use Rattle.answer_workers.proofs.visit.post_answers.Goals as goal

pub post-requires-clause-fit : goal.post-requires-clause-fit
post-requires-clause-fit g c =
    let held = c.index-held.result.now in
    let same : c.loop-k.worker.held.items ≡ c.args.worker.now.held.items = rw c.loop-k.invariant.held in
    (answered_at c.args.worker.now c.args.answered c.loop-k.worker.held.items c.loop-k.k held c.requires.answered same
    c.loop-k-test.true c.index-held.ensures).fit

pub post-requires-clause-earned : goal.post-requires-clause-earned
post-requires-clause-earned g c =
    let held = c.index-held.result.now in
    let same : c.loop-k.worker.held.items ≡ c.args.worker.now.held.items = rw c.loop-k.invariant.held in
    (answered_at c.args.worker.now c.args.answered c.loop-k.worker.held.items c.loop-k.k held c.requires.answered same
    c.loop-k-test.true c.index-held.ensures).earned

pub loop-k-preserved : goal.loop-k-preserved
loop-k-preserved g c =
    let a = c.loop-k.invariant in
    let old = c.loop-k.worker in
    let held = c.index-held.result.now in
    let seat = c.post.new.seat in
    let posted : HasWorked old (record old { seat = seat }) = record {
      board = c.post.ensures.board;
      goes = post_goes _ held.task.proposal held.task.unit (prices_of held.task.prices) (task_unit held.task)
          (answer_of held.answer) (view_of old.seat) (view_of seat) c.post.ensures.call;
      parts = parts_posted old seat c.post.ensures.board a.own.parts;
    } in
    record {
      own = still_of c.args.board.now old (record old { seat = seat }) a.own posted;
      worked = works_on c.args.worker.now old (record old { seat = seat }) a.worked posted;
      held = a.held;
    }
