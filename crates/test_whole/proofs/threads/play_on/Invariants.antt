use Rattle.test_whole.proofs.Common.{view_of, IsSameBoard, KeepsRest, IsTaskFor}
use Rattle.test_whole.proofs.threads.play_on.Given as goal

abbrev pub invariant-loop : goal.invariant-loop
invariant-loop g l =
    (goal.iterator-loop g).can_next l.iterator' × (goal.iterator-loop g).is_finite l.iterator' ×
    IsSameBoard l.initial.seat l.seat
    × KeepsRest (view_of l.initial.seat) (view_of l.seat) × IsTaskFor 1 l.task
