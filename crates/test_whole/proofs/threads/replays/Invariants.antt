use Rattle.test_whole.proofs.Common.{◌≡◌}
use Rattle.test_whole.proofs.threads.replays.Given as goal

abbrev pub invariant-loop-entry : goal.invariant-loop-entry
invariant-loop-entry l = l.board.setup.market.periods ≡ 1
