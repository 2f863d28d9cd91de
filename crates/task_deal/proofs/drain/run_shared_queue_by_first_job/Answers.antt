use Rattle.task_deal.proofs.Common.{rules, ◌≡◌, ap, slice_index_or, arith, injector_view}
use Rattle.task_deal.proofs.Lemmas.{room_source, ledger_source}
use Rattle.task_deal.proofs.drain.run_shared_queue_by_first_job.Goals as goal

pub run_tasks_left_in_shared_queue-requires-clause-pass : goal.run_tasks_left_in_shared_queue-requires-clause-pass
run_tasks_left_in_shared_queue-requires-clause-pass g c =
    (c.requires.owner.0, c.requires.owner.1, c.requires.ledger.1.parts)

pub run_tasks_left_in_shared_queue-requires-clause-room : goal.run_tasks_left_in_shared_queue-requires-clause-room
run_tasks_left_in_shared_queue-requires-clause-room g c = let y = c.index_mut.result.now in
    let at₀ : slice_index_or c.args.jobs.now.items 0 y ≡ y = search rules in
    omega (
      arith,
      room_source g.J.Job.work g.J.Job.runs g.J.Job.spare c.args.shared.now.thieves.items c.args.tasks
          c.requires.ledger.0 c.args.jobs.now.items (injector_view c.args.owner.now) c.args.owns.now.items y
          c.requires.some c.requires.ledger.1,
      ap g.J.Job.spare at₀,
    )

pub returns-clause-ledger : goal.returns-clause-ledger
returns-clause-ledger g c = λ first a. let y = c.index_mut.result.now in
    let at₀ : slice_index_or c.args.jobs.now.items 0 y ≡ y = search rules in
    ledger_source g.J.Job.work g.J.Job.runs g.J.Job.spare c.args.shared.now.thieves.items c.args.tasks first
    c.args.jobs.now.items (injector_view c.args.owner.now) (injector_view c.run_tasks_left_in_shared_queue.new.pass)
    c.args.owns.now.items y c.run_tasks_left_in_shared_queue.new.job c.requires.some at₀
    c.run_tasks_left_in_shared_queue.ensures.all.1
    c.run_tasks_left_in_shared_queue.ensures.all.0 c.run_tasks_left_in_shared_queue.ensures.job
    c.run_tasks_left_in_shared_queue.ensures.books a
