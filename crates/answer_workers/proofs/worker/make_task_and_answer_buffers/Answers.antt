use Rattle.answer_workers.proofs.Common.{[], ◌∷◌, length, ap, subst, sym, arith, length-append, All, All-push}
use Rattle.answer_workers.proofs.Common.{IsHeldFor, Held}
use Rattle.answer_workers.proofs.worker.make_task_and_answer_buffers.Goals as goal

pub loop-preserved : goal.loop-preserved
loop-preserved c =
    let a = c.loop.invariant in
    let held = c.in_ok-make.field-0 in
    let pushed = c.push_reserved.ensures.items in
    let long = ap (length {A = Held}) pushed in
    let more = length-append c.loop.held.items (held ∷ []) in
    let count = a.count in
    let room = a.room in
    let same = c.push_reserved.ensures.capacity in record {
      count = omega (arith, long, more, count);
      room = omega (arith, room, same);
      fits = λ m periods. subst (All (IsHeldFor m)) (sym pushed)
          (All-push (IsHeldFor m) c.loop.held.items held (a.fits m periods) (c.in_ok-make.ensures m periods));
    }
