use Rattle.task_deal.proofs.Common.{◌∙◌, arith, injector_view}
use Rattle.task_deal.proofs.Lemmas.{comes_out, even_sum, each_once}
use Rattle.task_deal.proofs.drain.run_numbers_left.Goals as goal

pub run_tasks_left_in_deque_at-requires-clause-ledger : goal.run_tasks_left_in_deque_at-requires-clause-ledger
run_tasks_left_in_deque_at-requires-clause-ledger g c = let inv = c.loop-at.invariant in
    let a = inv.4 c.requires.ledger.0 c.requires.ledger.1 in (
      c.requires.ledger.0,
      injector_view c.run_shared_queue_by_first_job.new.owner,
      (λ h. omega (arith, inv.2 a.parts h)),
      a,
    )

pub loop-at-preserved : goal.loop-at-preserved
loop-at-preserved g c = let inv = c.loop-at.invariant in (
  omega (arith, inv.0, c.run_tasks_left_in_deque_at.ensures.count.1),
  c.run_tasks_left_in_deque_at.ensures.count.0 ∙ inv.1,
  inv.2,
  c.run_tasks_left_in_deque_at.ensures.even inv.3,
  λ first a. c.run_tasks_left_in_deque_at.ensures.ledger first
      (injector_view c.run_shared_queue_by_first_job.new.owner) (inv.4 first a),
)

pub returns : goal.returns
returns g c = let inv = c.loop-at.invariant in λ first a.
    let work = g.J.Job.work in
    let runs = g.J.Job.runs in
    let spare = g.J.Job.spare in
    let now = c.loop-at.jobs.items in
    let after = inv.4 first a in
    record {
      jobs = after.jobs;
      once = each_once work runs spare c.args.tasks first now after.jobs
          (comes_out work runs spare c.args.shared.now.thieves.items c.args.tasks first now
          (injector_view c.run_shared_queue_by_first_job.new.owner) c.loop-at.owns.items after inv.2
          (λ h. even_sum h c.loop-at.owns.items
          (λ i d b. inv.3 i d (omega arith)
          (omega (arith, b, c.loop-at-test.false, c.len-at-end.ensures, inv.1)))));
    }
