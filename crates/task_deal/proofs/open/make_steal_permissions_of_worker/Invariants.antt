use Rattle.task_deal.proofs.Lemmas.{Filling}
use Rattle.task_deal.proofs.open.make_steal_permissions_of_worker.Given as goal

abbrev pub invariant-loop-at : goal.invariant-loop-at
invariant-loop-at l = Filling l.shared.thieves.items l.out l.at l.initial.owns.items l.owns.items l.purse.items
