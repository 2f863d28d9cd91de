use Rattle.ramp_step.proofs.Common.{◌≡◌, to_z, of_z, w64, to_z-of_z}
use Rattle.ramp_step.proofs.Lemmas.{IsCut-below}
use Rattle.ramp_step.proofs.cutting.cut_below.Goals as goal

pub returns-clause-cut : goal.returns-clause-cut
returns-clause-cut c =
    let e : to_z w64 (of_z w64 c.args.lo) ≡ c.args.lo = to_z-of_z w64 _ c.ranges.lo in
    IsCut-below c.args.knots.now c.split-n.new.knots c.drop_from.new.knots c.args.used c.split-n.result c.below-m.result
    c.args.lo c.requires.stand
    (rw e at c.split-n.ensures.split) (rw e at c.below-m.ensures) c.drop_from.ensures
