use Rattle.test_whole.proofs.Common.{◌≤◌, view_of, IsSameBoard, KeepsRest, IsTaskFor}
use Rattle.test_whole.proofs.seats.play.Given as goal

abbrev pub invariant-loop-step : goal.invariant-loop-step
invariant-loop-step g l =
    IsSameBoard l.fn.owner l.owner × KeepsRest (view_of l.fn.owner) (view_of l.owner) × IsSameBoard l.fn.other l.other
    × KeepsRest (view_of l.fn.other) (view_of l.other) × IsTaskFor 1 l.task × (l.held ≤ l.step-index)
