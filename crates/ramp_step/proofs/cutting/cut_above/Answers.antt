use Rattle.ramp_step.proofs.Common.{◌≡◌, arith, to_z, of_z, w64, ints, to_z-of_z}
use Rattle.ramp_step.proofs.Lemmas.{IsCut-at, IsCut-off, IsLimited-fewer}
use Rattle.ramp_step.proofs.cutting.cut_above.Goals as goal

pub returns-then-m-n-clause-cut : goal.returns-then-m-n-clause-cut
returns-then-m-n-clause-cut c =
    let e : to_z w64 (of_z w64 c.args.hi) ≡ c.args.hi = to_z-of_z w64 _ c.ranges.hi in
    IsCut-off c.args.knots.now c.split-n.new.knots c.args.used c.split-n.result c.below-m.result c.args.hi
    c.requires.stand
    (rw e at c.split-n.ensures.split) (rw e at c.below-m.ensures) (λ inside same. omega arith)

pub returns-then-knots-m-clause-cut : goal.returns-then-knots-m-clause-cut
returns-then-knots-m-clause-cut c =
    IsCut-at c.args.knots.now c.split-n.new.knots c.args.used c.split-n.result c.below-m.result c.args.hi
    c.requires.stand
    (rw (to_z-of_z w64 c.args.hi c.ranges.hi) at c.split-n.ensures.split) (omega arith) (omega (arith, ints))

pub returns-clause-cut : goal.returns-clause-cut
returns-clause-cut c =
    let e : to_z w64 (of_z w64 c.args.hi) ≡ c.args.hi = to_z-of_z w64 _ c.ranges.hi in
    IsCut-off c.args.knots.now c.split-n.new.knots c.args.used c.split-n.result c.below-m.result c.args.hi
    c.requires.stand
    (rw e at c.split-n.ensures.split) (rw e at c.below-m.ensures) (λ inside same. omega (arith, ints))

pub returns-clause-limits : goal.returns-clause-limits
returns-clause-limits c =
    let within = c.below-m.ensures.within in
    IsLimited-fewer c.split-n.new.knots c.split-n.result c.below-m.result c.split-n.ensures.limits within
