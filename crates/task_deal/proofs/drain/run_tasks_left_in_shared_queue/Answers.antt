use Rattle.task_deal.proofs.Common.{◌∙◌, ap, sym, subst, Account, IsSettled, injector_view}
use Rattle.task_deal.proofs.Lemmas.{books_on, books_same, idle_books, drains, finds, may_run, runs_none, runs_one}
use Rattle.task_deal.proofs.drain.run_tasks_left_in_shared_queue.Goals as goal

pub run-requires : goal.run-requires
run-requires g c = may_run g.J.Job.work g.J.Job.runs g.J.Job.spare (injector_view c.args.pass.now)
    (injector_view c.loop.pass) (injector_view c.steal_as.new.pass) c.args.job.now c.loop.job c.in-Success.task
    c.requires.room c.loop.invariant.4 c.loop.invariant.5 c.in-Success.ensures.rule.0 c.in-Success.ensures.rule.1

pub loop-preserved-in-Success : goal.loop-preserved-in-Success
loop-preserved-in-Success g c = (
  c.loop.invariant.0,
  c.loop.invariant.1,
  c.steal_as.ensures.same.0,
  c.steal_as.ensures.same.1 ∙ c.loop.invariant.3,
  runs_one g.J.Job.work g.J.Job.runs g.J.Job.spare c.args.job.now c.loop.job c.run.new.self c.in-Success.task
      c.loop.invariant.4 c.run.ensures.work c.run.ensures.runs c.run.ensures.spare,
  books_on g.J.Job.work g.J.Job.runs g.J.Job.spare (injector_view c.args.pass.now) (injector_view c.loop.pass)
      (injector_view c.steal_as.new.pass) c.args.job.now c.loop.job c.run.new.self c.in-Success.task
      c.loop.invariant.5 c.in-Success.ensures.rule.0 c.run.ensures.runs,
  ap (λ (u : Account). u.parts) c.in-Success.ensures.rule.0 ∙ c.loop.invariant.6,
)

pub loop-init : goal.loop-init
loop-init g c = (
  tt,
  tt,
  c.requires.pass.0,
  c.requires.pass.1,
  runs_none g.J.Job.work g.J.Job.runs g.J.Job.spare c.args.job.now,
  idle_books g.J.Job.work g.J.Job.runs g.J.Job.spare (injector_view c.args.pass.now) c.args.job.now,
  c.requires.pass.2,
)

pub steal_as-requires-clause-queue : goal.steal_as-requires-clause-queue
steal_as-requires-clause-queue g c = c.loop.invariant.2

pub steal_as-requires-clause-rule : goal.steal_as-requires-clause-rule
steal_as-requires-clause-rule g c = (drains _ _ c.loop.invariant.3, finds _ _)

pub returns-in-Empty-clause-same : goal.returns-in-Empty-clause-same
returns-in-Empty-clause-same g c = (c.steal_as.ensures.same.0, c.steal_as.ensures.same.1 ∙ c.loop.invariant.3)

pub returns-in-Empty-clause-job : goal.returns-in-Empty-clause-job
returns-in-Empty-clause-job g c = c.loop.invariant.4

pub returns-in-Empty-clause-books : goal.returns-in-Empty-clause-books
returns-in-Empty-clause-books g c = books_same g.J.Job.work g.J.Job.runs g.J.Job.spare (injector_view c.args.pass.now)
    (injector_view c.loop.pass) (injector_view c.steal_as.new.pass) c.args.job.now c.loop.job c.loop.invariant.5
    c.in-Empty.ensures.rule.0

pub returns-in-Empty-clause-all : goal.returns-in-Empty-clause-all
returns-in-Empty-clause-all g c = (
  subst IsSettled (sym c.in-Empty.ensures.rule.0) c.in-Empty.ensures.rule.1,
  ap (λ (u : Account). u.parts) c.in-Empty.ensures.rule.0 ∙ c.loop.invariant.6,
)

pub loop-preserved : goal.loop-preserved
loop-preserved g c = (
  c.loop.invariant.0,
  c.loop.invariant.1,
  c.steal_as.ensures.same.0,
  c.steal_as.ensures.same.1 ∙ c.loop.invariant.3,
  c.loop.invariant.4,
  books_same g.J.Job.work g.J.Job.runs g.J.Job.spare (injector_view c.args.pass.now) (injector_view c.loop.pass)
      (injector_view c.steal_as.new.pass) c.args.job.now c.loop.job c.loop.invariant.5 c.in-Retry.ensures.rule,
  ap (λ (u : Account). u.parts) c.in-Retry.ensures.rule ∙ c.loop.invariant.6,
)
