use Rattle.test_whole.proofs.Common.{◌≡◌, ◌≤◌, IsTaskFor}
use Rattle.test_whole.proofs.boards.play.Given as goal

abbrev pub invariant-loop-step : goal.invariant-loop-step
invariant-loop-step l = (l.board.setup ≡ l.fn.board.setup) × IsTaskFor l.board.setup.market.periods l.task ×
    (l.held ≤ l.step-index)
