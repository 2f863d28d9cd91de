use Rattle.cost_curve.proofs.Common.{rules, ◌≤ℤ◌, ◌<ℤ◌, arith, ints, point_at}
use Rattle.cost_curve.proofs.Lemmas.{ordered_powers, IsStart-keeps, IsStart-takes}
use Rattle.cost_curve.proofs.walk.cheaper_point.Goals as goal

pub returns-then-found-point-clause-start : goal.returns-then-found-point-clause-start
returns-then-found-point-clause-start c =
    let up : (point_at c.args.points.now c.args.best).at <ℤ (point_at c.args.points.now c.args.index).at =
    search rules in
    IsStart-keeps c.args.points.now c.args.best c.args.index c.requires.start (omega (arith, ints, up))
    (λ low. absurd (omega (arith, ints, up, low)))

pub returns-then-found-point-2-clause-start : goal.returns-then-found-point-2-clause-start
returns-then-found-point-2-clause-start c =
    let cheap : (point_at c.args.points.now c.args.best).cost ≤ℤ (point_at c.args.points.now c.args.index).cost =
    search rules in
    let order = ordered_powers c.args.points.now c.requires.points.ordered c.args.best c.args.index (omega arith)
    c.requires.within in
    IsStart-keeps c.args.points.now c.args.best c.args.index c.requires.start order (λ low. cheap)

pub returns-clause-start : goal.returns-clause-start
returns-clause-start c =
    let low : (point_at c.args.points.now c.args.index).at ≤ℤ (point_at c.args.points.now c.args.best).at =
    search rules in
    let cheaper : (point_at c.args.points.now c.args.index).cost <ℤ (point_at c.args.points.now c.args.best).cost =
    search rules in
    let order = ordered_powers c.args.points.now c.requires.points.ordered c.args.best c.args.index (omega arith)
    c.requires.within in
    IsStart-takes c.args.points.now c.args.best c.args.index c.requires.start low order cheaper
