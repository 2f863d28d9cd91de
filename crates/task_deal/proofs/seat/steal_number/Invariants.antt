use Rattle.task_deal.proofs.Common.{◌≡◌, view, IsPart}
use Rattle.task_deal.proofs.seat.steal_number.Given as goal

abbrev pub invariant-loop : goal.invariant-loop
invariant-loop g l = (goal.iterator-loop g).can_next l.iterator' × (goal.iterator-loop g).is_finite l.iterator' ×
    IsPart l.thief l.pass × (view l.pass ≡ view l.initial.pass)
