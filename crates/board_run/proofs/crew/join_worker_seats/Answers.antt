use Rattle.board_run.proofs.Common.{rules, ◌≡◌, List, [], ◌∷◌, ◌++◌, Some, refl, All-pop, ap, ◌∙◌, subst, View, Worker}
use Rattle.board_run.proofs.Common.{AreOut}
use Rattle.board_run.specs.Crews.{IsCalmWorker}
use Rattle.board_run.proofs.Lemmas.{join_one}
use Rattle.board_run.proofs.crew.join_worker_seats.Goals as goal

pub loop-worker-preserved : goal.loop-worker-preserved
loop-worker-preserved c =
    let l = c.loop-worker in
    let board = c.args.board.now in
    let out = subst (λ (ws : List Worker). AreOut board l.owner ws) c.in-Some.ensures.items l.invariant.0 in
    let join = c.join.ensures in (
      join_one board l.owner c.join.new.seat c.pop.new.self.items c.in-Some.worker out join.board.0 join.board.1
          (ap (λ (v : View). v.out) join.view) join.joined,
      join.board.0.1 ∙ l.invariant.1,
    )

pub returns-clause-out : goal.returns-clause-out
returns-clause-out c =
    let none : c.loop-worker.workers.items ≡ [] = search rules in
    subst (λ (ws : List Worker). AreOut c.args.board.now c.loop-worker.owner ws) none c.loop-worker.invariant.0

pub join-requires : goal.join-requires
join-requires c =
    let l = c.loop-worker in
    let rest = c.pop.new.self.items in
    let out = subst (λ (ws : List Worker). AreOut c.args.board.now l.owner ws) c.in-Some.ensures.items l.invariant.0 in
    let mine = (All-pop (IsCalmWorker l.owner) (rest ++ c.in-Some.worker ∷ []) rest (Some c.in-Some.worker) refl
    out.others).1 in
    record { own = (out.own.0, out.own.1, mine.same) }
