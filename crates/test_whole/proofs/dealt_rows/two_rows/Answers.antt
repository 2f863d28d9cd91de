use Rattle.test_whole.proofs.dealt_rows.two_rows.Goals as goal

pub jobs_for-requires : goal.jobs_for-requires
jobs_for-requires g c = (_, c.in_ok-case.ensures.feasible.feasible)
