use Rattle.task_deal.proofs.Common.{vec_len}
use Rattle.task_deal.proofs.Lemmas.{Returning}
use Rattle.task_deal.proofs.settle.return_steal_permissions_of_worker.Given as goal

abbrev pub decreases-loop-pass : goal.decreases-loop-pass
decreases-loop-pass l = vec_len l.purse

abbrev pub invariant-loop-pass : goal.invariant-loop-pass
invariant-loop-pass l = Returning l.shared.thieves.items l.left l.initial.owns.items l.initial.purse.items l.owns.items
    l.purse.items
