use Rattle.board_run.proofs.Common.{◌≡◌, vec_len, view_of, AreOut}
use Rattle.board_run.proofs.crew.join_worker_seats.Given as goal

abbrev pub invariant-loop-worker : goal.invariant-loop-worker
invariant-loop-worker l = AreOut l.board l.owner l.workers.items ×
    ((view_of l.owner).setup ≡ (view_of l.initial.owner).setup)

abbrev pub decreases-loop-worker : goal.decreases-loop-worker
decreases-loop-worker l = vec_len l.workers
