use Rattle.test_units.proofs.Lemmas.{small_same, stepped_same}
use Rattle.test_units.proofs.step.stepped.Goals as goal

pub take_step-requires-clause-small : goal.take_step-requires-clause-small
take_step-requires-clause-small g c =
    small_same (g.S.Shape.function c.args.home.now c.args.before.now) _ c.in_ok-after.ensures.ok c.requires.small

pub returns-in-Ok-clause-ok : goal.returns-in-Ok-clause-ok
returns-in-Ok-clause-ok g c =
    stepped_same c.args.step c.args.curve.now (g.S.Shape.function c.args.home.now c.args.before.now)
    (g.S.Shape.function c.copy.new.home c.in_ok-after.after) _ c.in_ok-after.ensures.ok c.in-Ok.ensures.ok

pub returns-in-Ok-clause-frame : goal.returns-in-Ok-clause-frame
returns-in-Ok-clause-frame g c =
    c.frames_join.ensures _ _ _ _ _ _ c.in_ok-after.ensures.frame c.take_step.ensures.frame

pub returns-in-Err-clause-err_frame : goal.returns-in-Err-clause-err_frame
returns-in-Err-clause-err_frame g c =
    let join = c.frames_join.ensures in
    join _ _ _ _ _ _ c.in_ok-after.ensures.frame (join _ _ _ _ _ _ c.take_step.ensures.frame c.give_back.ensures.frame)
