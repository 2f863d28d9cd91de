use Rattle.task_deal.proofs.Common.{◌≡◌, length, AreOpen}
use Rattle.task_deal.proofs.open.open_deques.Given as goal

abbrev pub invariant-loop : goal.invariant-loop
invariant-loop l = (length l.owns.items ≡ l.counter) × AreOpen l.thieves.items l.owns.items
