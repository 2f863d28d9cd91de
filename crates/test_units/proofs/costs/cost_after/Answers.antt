use Rattle.test_units.proofs.costs.cost_after.Goals as goal

pub returns-clause-frame : goal.returns-clause-frame
returns-clause-frame g c =
    c.frames_join.ensures _ _ _ _ _ _ c.in_ok-after.ensures.frame c.give_back.ensures.frame
