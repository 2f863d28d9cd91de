use Rattle.plan_settle.proofs.Common.{AreOver}
use Rattle.plan_settle.proofs.room.make_answer_buffers.Given as goal

abbrev pub invariant-loop : goal.invariant-loop
invariant-loop l = AreOver l.periods l.counter l.answers.items
