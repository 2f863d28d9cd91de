use Rattle.test_whole.proofs.steps.walked.Given as goal

abbrev pub invariant-loop-step : goal.invariant-loop-step
invariant-loop-step g l = g.S.Shape.is_in l.home l.after
