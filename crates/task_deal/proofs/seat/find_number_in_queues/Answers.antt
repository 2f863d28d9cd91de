use Rattle.task_deal.proofs.Lemmas.{gains_on, gains_none, gains_self, found_on, same_on, same_self}
use Rattle.task_deal.proofs.seat.find_number_in_queues.Goals as goal

pub loop-init : goal.loop-init
loop-init g c = (tt, tt, c.requires, same_self c.args.seat.now, gains_self c.args.seat.now)

pub pop_own-requires : goal.pop_own-requires
pop_own-requires g c = c.loop.invariant.2

pub returns-in-Some-pop_own-clause-same : goal.returns-in-Some-pop_own-clause-same
returns-in-Some-pop_own-clause-same g c = (
  c.pop_own.ensures.same.0,
  same_on c.args.seat.now c.loop.seat c.pop_own.new.seat c.loop.invariant.3 c.pop_own.ensures.same.1,
)

pub returns-in-Some-pop_own-clause-gains : goal.returns-in-Some-pop_own-clause-gains
returns-in-Some-pop_own-clause-gains g c = gains_on c.args.seat.now c.loop.seat c.pop_own.new.seat
    c.in-Some-pop_own.task c.loop.invariant.4 c.in-Some-pop_own.ensures.gains

pub steal_batch_from_shared_queue-requires : goal.steal_batch_from_shared_queue-requires
steal_batch_from_shared_queue-requires g c = c.pop_own.ensures.same.0

pub returns-in-Success-clause-same : goal.returns-in-Success-clause-same
returns-in-Success-clause-same g c = (
  c.steal_batch_from_shared_queue.ensures.same.0,
  same_on c.args.seat.now c.loop.seat c.steal_batch_from_shared_queue.new.seat c.loop.invariant.3
      (same_on c.loop.seat c.pop_own.new.seat c.steal_batch_from_shared_queue.new.seat c.pop_own.ensures.same.1
      c.steal_batch_from_shared_queue.ensures.same.1),
)

pub returns-in-Success-clause-gains : goal.returns-in-Success-clause-gains
returns-in-Success-clause-gains g c = gains_on c.args.seat.now c.pop_own.new.seat
    c.steal_batch_from_shared_queue.new.seat
    c.in-Success.task
    (gains_none c.args.seat.now c.loop.seat c.pop_own.new.seat c.loop.invariant.4 c.in_default.ensures.gains)
    c.in-Success.ensures.gains

pub steal_any-requires : goal.steal_any-requires
steal_any-requires g c = c.steal_batch_from_shared_queue.ensures.same.0

pub returns-in-Empty-clause-same : goal.returns-in-Empty-clause-same
returns-in-Empty-clause-same g c = (
  c.steal_any.ensures.same.0,
  same_on c.args.seat.now c.steal_batch_from_shared_queue.new.seat c.steal_any.new.seat
      (same_on c.args.seat.now c.loop.seat c.steal_batch_from_shared_queue.new.seat c.loop.invariant.3
      (same_on c.loop.seat c.pop_own.new.seat c.steal_batch_from_shared_queue.new.seat c.pop_own.ensures.same.1
      c.steal_batch_from_shared_queue.ensures.same.1))
      c.steal_any.ensures.same.1,
)

pub returns-in-Empty-clause-gains : goal.returns-in-Empty-clause-gains
returns-in-Empty-clause-gains g c = found_on c.args.seat.now c.steal_batch_from_shared_queue.new.seat
    c.steal_any.new.seat
    c.steal_any.result
    (gains_none c.args.seat.now c.pop_own.new.seat c.steal_batch_from_shared_queue.new.seat
    (gains_none c.args.seat.now c.loop.seat c.pop_own.new.seat c.loop.invariant.4 c.in_default.ensures.gains)
    c.in-Empty.ensures.gains) c.steal_any.ensures.gains

pub loop-preserved : goal.loop-preserved
loop-preserved g c = (
  c.loop.invariant.0,
  c.loop.invariant.1,
  c.steal_batch_from_shared_queue.ensures.same.0,
  same_on c.args.seat.now c.loop.seat c.steal_batch_from_shared_queue.new.seat c.loop.invariant.3
      (same_on c.loop.seat c.pop_own.new.seat c.steal_batch_from_shared_queue.new.seat c.pop_own.ensures.same.1
      c.steal_batch_from_shared_queue.ensures.same.1),
  gains_none c.args.seat.now c.pop_own.new.seat c.steal_batch_from_shared_queue.new.seat
      (gains_none c.args.seat.now c.loop.seat c.pop_own.new.seat c.loop.invariant.4 c.in_default.ensures.gains)
      c.in-Retry.ensures.gains,
)
