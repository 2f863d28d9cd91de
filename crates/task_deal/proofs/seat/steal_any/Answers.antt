use Rattle.task_deal.proofs.Lemmas.{gains_on, gains_none, gains_self, same_on, same_self}
use Rattle.task_deal.proofs.seat.steal_any.Goals as goal

pub loop-at-init : goal.loop-at-init
loop-at-init g c = (c.requires, same_self c.args.seat.now, gains_self c.args.seat.now)

pub steal_at-requires-clause-seat : goal.steal_at-requires-clause-seat
steal_at-requires-clause-seat g c = c.loop-at.invariant.0

pub returns-in-Some-clause-same : goal.returns-in-Some-clause-same
returns-in-Some-clause-same g c = (
  c.steal_at.ensures.same.0,
  same_on c.args.seat.now c.loop-at.seat c.steal_at.new.seat c.loop-at.invariant.1 c.steal_at.ensures.same.1,
)

pub returns-in-Some-clause-gains : goal.returns-in-Some-clause-gains
returns-in-Some-clause-gains g c = gains_on c.args.seat.now c.loop-at.seat c.steal_at.new.seat
    c.in-Some.task c.loop-at.invariant.2 c.in-Some.ensures.gains

pub loop-at-preserved : goal.loop-at-preserved
loop-at-preserved g c = (
  c.steal_at.ensures.same.0,
  same_on c.args.seat.now c.loop-at.seat c.steal_at.new.seat c.loop-at.invariant.1 c.steal_at.ensures.same.1,
  gains_none c.args.seat.now c.loop-at.seat c.steal_at.new.seat c.loop-at.invariant.2 c.in_default.ensures.gains,
)

pub returns-clause-same : goal.returns-clause-same
returns-clause-same g c = (c.loop-at.invariant.0, c.loop-at.invariant.1)

pub returns-clause-gains : goal.returns-clause-gains
returns-clause-gains g c = c.loop-at.invariant.2
