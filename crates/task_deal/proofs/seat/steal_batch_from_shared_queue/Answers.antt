use Rattle.task_deal.proofs.Common.{arith}
use Rattle.task_deal.proofs.Lemmas.{pushes, takes, finds, admits, fetched, fetched_seat}
use Rattle.task_deal.proofs.seat.steal_batch_from_shared_queue.Goals as goal

pub steal_batch_and_pop_as-requires-clause-queue : goal.steal_batch_and_pop_as-requires-clause-queue
steal_batch_and_pop_as-requires-clause-queue g c = (c.requires.source, omega arith)

pub steal_batch_and_pop_as-requires-clause-takes : goal.steal_batch_and_pop_as-requires-clause-takes
steal_batch_and_pop_as-requires-clause-takes g c = (takes _ _ 32 (omega (arith, c.requires.part)), admits, finds _ _)

pub steal_batch_and_pop_as-requires-clause-pushes : goal.steal_batch_and_pop_as-requires-clause-pushes
steal_batch_and_pop_as-requires-clause-pushes g c = λ x xs w h. pushes _ _ _ c.requires.port

pub returns-clause-same : goal.returns-clause-same
returns-clause-same g c = fetched_seat c.args.shared.now c.args.seat.now c.steal_batch_and_pop_as.new.pass
    c.steal_batch_and_pop_as.new.dest 32 c.requires c.steal_batch_and_pop_as.ensures.same.0
    c.steal_batch_and_pop_as.ensures.same.2 c.steal_batch_and_pop_as.result _ c.steal_batch_and_pop_as.ensures.rules

pub returns-clause-gains : goal.returns-clause-gains
returns-clause-gains g c = fetched c.args.seat.now c.steal_batch_and_pop_as.new.pass c.steal_batch_and_pop_as.new.dest
    32 c.requires.flavor c.steal_batch_and_pop_as.result _ c.steal_batch_and_pop_as.ensures.rules
