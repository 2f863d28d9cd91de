use Rattle.answer_workers.proofs.Common.{◌∙◌, ◌<◌, length, arith, length-set}
use Rattle.answer_workers.proofs.Lemmas.{one_works, one_there, one_finishes, zip_worked, all_still, still_all_of}
use Rattle.answer_workers.proofs.all.find_how_workers_ended.Goals as goal

pub loop-k-preserved : goal.loop-k-preserved
loop-k-preserved g c =
    let l = c.loop-k in
    let now = l.workers in
    let y = c.answer_tasks_until_board_ends.new.worker in
    let below = c.loop-k-test.true in
    let same = l.invariant.count in
    let inside : l.k < length now = omega (arith, below, same) in
    record {
      count = length-set now l.k y ∙ l.invariant.count;
      worked = one_works c.args.workers.now now l.k y inside c.index-workers-k.result
          c.answer_tasks_until_board_ends.ensures.worked
          l.invariant.worked;
      finished = one_finishes c.args.workers.now now l.k y inside c.in-Finished.ensures.ended l.invariant.finished;
    }

pub returns-in-Halted-clause-worked : goal.returns-in-Halted-clause-worked
returns-in-Halted-clause-worked g c =
    let l = c.loop-k in
    let now = l.workers in
    let y = c.answer_tasks_until_board_ends.new.worker in
    let below = c.loop-k-test.true in
    let same = l.invariant.count in
    let inside : l.k < length now = omega (arith, below, same) in
    zip_worked c.args.workers.now _ (length-set now l.k y ∙ l.invariant.count)
    (one_works c.args.workers.now now l.k y inside c.index-workers-k.result
    c.answer_tasks_until_board_ends.ensures.worked
    l.invariant.worked)

pub returns-in-Halted-clause-ended : goal.returns-in-Halted-clause-ended
returns-in-Halted-clause-ended g c =
    let l = c.loop-k in
    let y = c.answer_tasks_until_board_ends.new.worker in
    let below = c.loop-k-test.true in
    let same = l.invariant.count in
    let inside : l.k < length l.workers = omega (arith, below, same) in
    (y, one_there c.args.workers.now l.workers l.k y inside, c.in-Halted.ensures.ended)

pub returns-in-Halted-clause-own : goal.returns-in-Halted-clause-own
returns-in-Halted-clause-own g c =
    all_still c.args.board.now c.args.workers.now _ c.requires (returns-in-Halted-clause-worked g c)

pub returns-clause-worked : goal.returns-clause-worked
returns-clause-worked g c = zip_worked c.args.workers.now c.loop-k.workers c.loop-k.invariant.count
    c.loop-k.invariant.worked

pub returns-clause-own : goal.returns-clause-own
returns-clause-own g c = still_all_of c.args.board.now c.args.workers.now c.loop-k.workers c.loop-k.invariant.count
    c.requires c.loop-k.invariant.worked

pub returns-clause-ended : goal.returns-clause-ended
returns-clause-ended g c = let past = c.loop-k-test.false in
    λ i d inside. c.loop-k.invariant.finished i d (omega (arith, past, inside))
