use Rattle.std.specs.Prelude.{⊤}
use Rattle.task_deal.proofs.Common.{ap, arith, Account, Seat}
use Rattle.crossbeam_deque.specs.declared.steal.Steal.TheVariants.{Empty, Success, Retry}
use Rattle.task_deal.proofs.Lemmas.{takes, finds, took, took_seat, same_own, gains_on, gains_none, gains_self}
use Rattle.task_deal.proofs.Lemmas.{same_self}
use Rattle.task_deal.proofs.seat.steal_one_from_shared_queue.Goals as goal

pub loop-init : goal.loop-init
loop-init g c = (tt, tt, c.requires, same_self c.args.seat.now, gains_self c.args.seat.now)

pub steal_as-requires-clause-queue : goal.steal_as-requires-clause-queue
steal_as-requires-clause-queue g c = c.loop.invariant.2.source

pub steal_as-requires-clause-rule : goal.steal_as-requires-clause-rule
steal_as-requires-clause-rule g c = (takes _ _ 1 (omega (arith, c.loop.invariant.2.part)), finds _ _)

pub returns-in-Success-clause-same : goal.returns-in-Success-clause-same
returns-in-Success-clause-same g c = (
  took_seat c.args.shared.now c.loop.seat c.steal_as.new.pass c.loop.invariant.2 c.steal_as.ensures.same.0
      (ap (λ (u : Account). u.parts) c.in-Success.ensures.rule),
  same_own c.args.seat.now c.loop.seat c.steal_as.new.pass c.loop.invariant.3,
)

pub returns-in-Success-clause-gains : goal.returns-in-Success-clause-gains
returns-in-Success-clause-gains g c =
    let s : Seat = c.loop.seat in
    gains_on c.args.seat.now s (record s { source = c.steal_as.new.pass }) c.in-Success.task c.loop.invariant.4
    (took s c.steal_as.new.pass (Success c.in-Success.task) ⊤ c.in-Success.ensures.rule)

pub returns-in-Empty-clause-same : goal.returns-in-Empty-clause-same
returns-in-Empty-clause-same g c = (
  took_seat c.args.shared.now c.loop.seat c.steal_as.new.pass c.loop.invariant.2 c.steal_as.ensures.same.0
      (ap (λ (u : Account). u.parts) c.in-Empty.ensures.rule.0),
  same_own c.args.seat.now c.loop.seat c.steal_as.new.pass c.loop.invariant.3,
)

pub returns-in-Empty-clause-gains : goal.returns-in-Empty-clause-gains
returns-in-Empty-clause-gains g c =
    let s : Seat = c.loop.seat in
    gains_none c.args.seat.now s (record s { source = c.steal_as.new.pass }) c.loop.invariant.4
    (took s c.steal_as.new.pass Empty _ c.in-Empty.ensures.rule)

pub loop-preserved : goal.loop-preserved
loop-preserved g c =
    let s : Seat = c.loop.seat in (
      c.loop.invariant.0,
      c.loop.invariant.1,
      took_seat c.args.shared.now s c.steal_as.new.pass c.loop.invariant.2 c.steal_as.ensures.same.0
          (ap (λ (u : Account). u.parts) c.in-Retry.ensures.rule),
      same_own c.args.seat.now s c.steal_as.new.pass c.loop.invariant.3,
      gains_none c.args.seat.now s (record s { source = c.steal_as.new.pass }) c.loop.invariant.4
          (took s c.steal_as.new.pass Retry ⊤ c.in-Retry.ensures.rule),
    )
