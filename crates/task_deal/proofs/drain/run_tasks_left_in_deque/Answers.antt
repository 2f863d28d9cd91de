use Rattle.task_deal.proofs.Common.{◌∙◌, ap, refl, sym, subst, arith, Account, IsSettled, worker_view}
use Rattle.task_deal.proofs.Lemmas.{books_on, books_same, idle_books, drains, finds, may_run, runs_none, runs_one}
use Rattle.task_deal.proofs.drain.run_tasks_left_in_deque.Goals as goal

pub run-requires : goal.run-requires
run-requires g c = may_run g.J.Job.work g.J.Job.runs g.J.Job.spare (worker_view c.args.own.now) (worker_view c.loop.own)
    (worker_view c.pop_as.new.self) c.args.job.now c.loop.job c.in-Some-pop_as.task c.requires.room
    c.loop.invariant.3 c.loop.invariant.4 c.in-Some-pop_as.ensures.rule.0 c.in-Some-pop_as.ensures.rule.1

pub loop-preserved : goal.loop-preserved
loop-preserved g c = (
  c.loop.invariant.0,
  c.loop.invariant.1,
  (
    c.pop_as.ensures.same.0.0 ∙ c.loop.invariant.2.0,
    c.pop_as.ensures.same.0.1 ∙ c.loop.invariant.2.1,
    c.pop_as.ensures.same.0.2 ∙ c.loop.invariant.2.2,
    omega (arith, c.pop_as.ensures.same.0.3, c.loop.invariant.2.3),
  ),
  runs_one g.J.Job.work g.J.Job.runs g.J.Job.spare c.args.job.now c.loop.job c.run.new.self c.in-Some-pop_as.task
      c.loop.invariant.3 c.run.ensures.work c.run.ensures.runs c.run.ensures.spare,
  books_on g.J.Job.work g.J.Job.runs g.J.Job.spare (worker_view c.args.own.now) (worker_view c.loop.own)
      (worker_view c.pop_as.new.self) c.args.job.now c.loop.job c.run.new.self c.in-Some-pop_as.task
      c.loop.invariant.4 c.in-Some-pop_as.ensures.rule.0 c.run.ensures.runs,
  ap (λ (u : Account). u.parts) c.in-Some-pop_as.ensures.rule.0 ∙ c.loop.invariant.5,
)

pub loop-init : goal.loop-init
loop-init g c = (
  tt,
  tt,
  (refl, refl, refl, omega arith),
  runs_none g.J.Job.work g.J.Job.runs g.J.Job.spare c.args.job.now,
  idle_books g.J.Job.work g.J.Job.runs g.J.Job.spare (worker_view c.args.own.now) c.args.job.now,
  c.requires.own.2,
)

pub pop_as-requires-clause-fifo : goal.pop_as-requires-clause-fifo
pop_as-requires-clause-fifo g c = λ _. drains _ _ (c.loop.invariant.2.2 ∙ c.requires.own.0)

pub pop_as-requires-clause-lifo : goal.pop_as-requires-clause-lifo
pop_as-requires-clause-lifo g c = λ l. absurd (omega (arith, l, c.loop.invariant.2.1, c.requires.own.1))

pub pop_as-requires-clause-empty : goal.pop_as-requires-clause-empty
pop_as-requires-clause-empty g c = finds _ _

pub returns-in_default-clause-same : goal.returns-in_default-clause-same
returns-in_default-clause-same g c = (
  c.pop_as.ensures.same.0.0 ∙ c.loop.invariant.2.0,
  c.pop_as.ensures.same.0.1 ∙ c.loop.invariant.2.1,
  c.pop_as.ensures.same.0.2 ∙ c.loop.invariant.2.2,
  omega (arith, c.pop_as.ensures.same.0.3, c.loop.invariant.2.3),
)

pub returns-in_default-clause-job : goal.returns-in_default-clause-job
returns-in_default-clause-job g c = c.loop.invariant.3

pub returns-in_default-clause-books : goal.returns-in_default-clause-books
returns-in_default-clause-books g c = books_same g.J.Job.work g.J.Job.runs g.J.Job.spare (worker_view c.args.own.now)
    (worker_view c.loop.own) (worker_view c.pop_as.new.self) c.args.job.now c.loop.job c.loop.invariant.4
    c.in_default.ensures.rule.0

pub returns-in_default-clause-all : goal.returns-in_default-clause-all
returns-in_default-clause-all g c = (
  subst IsSettled (sym c.in_default.ensures.rule.0) c.in_default.ensures.rule.1,
  ap (λ (u : Account). u.parts) c.in_default.ensures.rule.0 ∙ c.loop.invariant.5,
)
