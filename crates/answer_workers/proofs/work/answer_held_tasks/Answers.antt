use Rattle.answer_workers.proofs.Common.{refl, sym, subst, arith, IsAnswered, IsResponse, AllWithin-set}
use Rattle.answer_workers.proofs.Common.{AllWithin-more_set, Held, task_unit, prices_of, market_at}
use Rattle.answer_workers.proofs.Lemmas.{some_schedule, bench_serves, fits_at, parts_answered, Opens}
use Rattle.answer_workers.proofs.work.answer_held_tasks.Goals as goal

pub answer_task-requires-clause-some : goal.answer_task-requires-clause-some
answer_task-requires-clause-some g c =
    let l = c.loop-k in
    let m = market_at l.worker.seat in
    let h = c.index_mut-held.result.now in
    let at = c.index_mut-held.ensures.value in
    let test = c.loop-k-test.true in
    let most = l.invariant.given.0 in
    some_schedule m h.task (fits_at m l.worker l.k h (omega (arith, test, most)) at l.invariant.parts).task
    (subst (Opens m) (sym at) (l.invariant.given.1 l.k h (omega arith) (omega (arith, test))))

pub answer_task-requires-clause-bench : goal.answer_task-requires-clause-bench
answer_task-requires-clause-bench g c =
    let l = c.loop-k in
    let m = market_at l.worker.seat in
    let h = c.index_mut-held.result.now in
    let at = c.index_mut-held.ensures.value in
    let test = c.loop-k-test.true in
    let most = l.invariant.given.0 in
    bench_serves m h.task (fits_at m l.worker l.k h (omega (arith, test, most)) at l.invariant.parts).task
    (subst (Opens m) (sym at) (l.invariant.given.1 l.k h (omega arith) (omega (arith, test)))) l.worker
    l.invariant.parts

pub loop-k-preserved : goal.loop-k-preserved
loop-k-preserved g c =
    let l = c.loop-k in
    let m = market_at l.worker.seat in
    let h = c.index_mut-held.result.now in
    let at = c.index_mut-held.ensures.value in
    let test = c.loop-k-test.true in
    let most = l.invariant.given.0 in
    let count = l.invariant.parts.count in
    let y : Held = record { task = h.task; answer = c.swap.new.y; proposal = h.task.proposal; unit = h.task.unit } in
    let answered : IsAnswered y = subst (IsResponse (task_unit h.task) (prices_of h.task.prices))
    (sym c.swap.ensures.y_after) c.answer_task.ensures.response in
    let opens : Opens m y = subst (Opens m) (sym at) (l.invariant.given.1 l.k h (omega arith) (omega (arith, test))) in
    record {
      seat = l.invariant.seat;
      parts = parts_answered m l.worker l.k h (omega (arith, test, most)) at l.invariant.parts c.answer_task.new.bench
          c.swap.new.x y c.answer_task.ensures.bench c.swap.ensures.x_after refl answered;
      given = (
        most,
        AllWithin-set (Opens m) l.worker.held.items 0 c.args.given l.k y (omega (arith, test, most, count))
            opens l.invariant.given.1,
      );
      answered = (
        omega (arith, test, most),
        AllWithin-more_set l.worker.held.items l.k y
            (omega (arith, test, most, count)) IsAnswered l.invariant.answered.1 answered,
      );
    }

pub returns-clause-answered : goal.returns-clause-answered
returns-clause-answered g c =
    let l = c.loop-k in
    let past = c.loop-k-test.false in
    (l.invariant.given.0, λ i d low below. l.invariant.answered.1 i d low (omega (arith, past, below)))
