use Rattle.test_whole.proofs.shapes.after_48_steps.Given as goal

abbrev pub invariant-loop-period : goal.invariant-loop-period
invariant-loop-period g l = g.S.Shape.is_in l.home l.s
