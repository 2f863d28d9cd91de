use Rattle.answer_workers.proofs.Common.{refl, subst, arith, IsTold, market_at}
use Rattle.board_core.specs.declared.replies.Claim.{Claim}
use Rattle.answer_workers.proofs.Lemmas.{works_on, still_of, seat_stays, parts_given, given_kept, given_more}
use Rattle.answer_workers.proofs.visit.claim_share_of_tasks.Goals as goal

pub returns-in_default-clause-worked : goal.returns-in_default-clause-worked
returns-in_default-clause-worked g c = works_on c.args.worker.now c.loop-k.worker c.claim_task-end.new.worker
    c.loop-k.invariant.worked c.claim_task-end.ensures.worked

pub returns-in_default-clause-given : goal.returns-in_default-clause-given
returns-in_default-clause-given g c = given_kept c.loop-k.worker c.claim_task-end.new.worker c.loop-k.k
    c.claim_task-end.ensures.worked c.claim_task-end.ensures.held c.loop-k.invariant.given

pub returns-then-has_worker_enough_tasks-clause-worked : goal.returns-then-has_worker_enough_tasks-clause-worked
returns-then-has_worker_enough_tasks-clause-worked g c =
    let now = c.claim_task-end.new.worker in
    works_on c.args.worker.now now _
    (works_on c.args.worker.now c.loop-k.worker now c.loop-k.invariant.worked c.claim_task-end.ensures.worked)
    (seat_stays now _ refl
    (parts_given (market_at now.seat) now c.loop-k.k c.index_mut.result.now c.loop-k-test.true c.index_mut.ensures.value
    c.claim_task-end.ensures.worked.parts c.swap.new.x c.swap.new.y c.swap.ensures.x_after c.swap.ensures.y_after))

pub returns-then-has_worker_enough_tasks-clause-given : goal.returns-then-has_worker_enough_tasks-clause-given
returns-then-has_worker_enough_tasks-clause-given g c =
    let now = c.claim_task-end.new.worker in
    let test = c.loop-k-test.true in
    let given = given_kept c.loop-k.worker now c.loop-k.k c.claim_task-end.ensures.worked c.claim_task-end.ensures.held
    c.loop-k.invariant.given in (
      omega (arith, test),
      given_more (market_at now.seat) now c.loop-k.k c.index_mut.result.now c.swap.new.y test
          c.claim_task-end.ensures.worked.parts c.swap.ensures.y_after
          (subst (λ (r : Claim). IsTold r now) c.in-Given.is c.claim_task-end.ensures.told) given.1,
    )

pub loop-k-preserved : goal.loop-k-preserved
loop-k-preserved g c =
    let now = c.claim_task-end.new.worker in
    let test = c.loop-k-test.true in
    let a = c.loop-k.invariant in
    let claimed = c.claim_task-end.ensures.worked in
    let parts = parts_given (market_at now.seat) now c.loop-k.k c.index_mut.result.now test c.index_mut.ensures.value
    claimed.parts c.swap.new.x c.swap.new.y c.swap.ensures.x_after c.swap.ensures.y_after in
    let given = given_kept c.loop-k.worker now c.loop-k.k claimed c.claim_task-end.ensures.held a.given in record {
      own = still_of c.args.board.now now _ (still_of c.args.board.now c.loop-k.worker now a.own claimed)
          (seat_stays now _ refl parts);
      worked = works_on c.args.worker.now now _ (works_on c.args.worker.now c.loop-k.worker now a.worked claimed)
          (seat_stays now _ refl parts);
      given = (
        omega (arith, test),
        given_more (market_at now.seat) now c.loop-k.k c.index_mut.result.now c.swap.new.y test claimed.parts
            c.swap.ensures.y_after (subst (λ (r : Claim). IsTold r now) c.in-Given.is c.claim_task-end.ensures.told)
            given.1,
      );
    }

pub returns-clause-given : goal.returns-clause-given
returns-clause-given g c =
    let all = c.loop-k-test.false in
    let given = c.loop-k.invariant.given in
    (omega arith, λ i d low below. given.1 i d low (omega (arith, all, below)))
