use Rattle.task_deal.proofs.Common.{arith}
use Rattle.task_deal.proofs.Lemmas.{takes_owner, finds, popped, popped_seat}
use Rattle.task_deal.proofs.seat.pop_own.Goals as goal

pub pop_as-requires-clause-fifo : goal.pop_as-requires-clause-fifo
pop_as-requires-clause-fifo c = λ _. takes_owner _ _ 1 c.requires.port

pub pop_as-requires-clause-lifo : goal.pop_as-requires-clause-lifo
pop_as-requires-clause-lifo c = λ l. absurd (omega (arith, l, c.requires.flavor))

pub pop_as-requires-clause-empty : goal.pop_as-requires-clause-empty
pop_as-requires-clause-empty c = finds _ _

pub returns-clause-same : goal.returns-clause-same
returns-clause-same c = popped_seat c.args.shared.now c.args.seat.now c.pop_as.new.self c.pop_as.result _ c.requires
    c.pop_as.ensures.same.0 c.pop_as.ensures.rule

pub returns-clause-gains : goal.returns-clause-gains
returns-clause-gains c = popped c.args.seat.now c.pop_as.new.self c.pop_as.result _ c.pop_as.ensures.rule
