use Rattle.cost_curve.proofs.Common.{arith, ints}
use Rattle.cost_curve.proofs.Lemmas.{product_fits, cost_fits, cost_is, near, far, total_fits, total_is}
use Rattle.cost_curve.proofs.costs.cost_between_envelope_points.Goals as goal

pub overflow_mul-cost : goal.overflow_mul-cost
overflow_mul-cost c = product_fits c.args.from.now c.args.slope.price c.args.slope.width c.args.x c.requires.limits
    c.args.slope.price_limit c.args.slope.width_limit c.requires.power c.requires.line

pub overflow_add-cost : goal.overflow_add-cost
overflow_add-cost c = cost_fits c.args.from.now c.args.slope.price c.args.slope.width c.args.x c.requires.limits
    c.args.slope.price_limit c.args.slope.width_limit c.requires.power c.requires.line

pub returns-then-over-slope-clause-before : goal.returns-then-over-slope-clause-before
returns-then-over-slope-clause-before c = λ h. cost_is c.args.from.now c.args.slope.price c.args.slope.width c.args.x
    c.requires.limits c.args.slope.price_limit c.args.slope.width_limit c.requires.power c.requires.line

pub returns-then-over-slope-clause-after : goal.returns-then-over-slope-clause-after
returns-then-over-slope-clause-after c = λ h.
    let e = cost_is c.args.from.now c.args.slope.price c.args.slope.width c.args.x c.requires.limits
    c.args.slope.price_limit c.args.slope.width_limit c.requires.power c.requires.line in
    let n = near c.args.from.now c.args.slope.price c.args.slope.width c.args.x c.requires.limits
    c.args.slope.price_limit c.args.slope.width_limit c.requires.power c.requires.line c.if-over-slope.true in
    omega (arith, ints, e, n, h)

pub overflow_add-result : goal.overflow_add-result
overflow_add-result c = total_fits c.args.from.now c.args.slope.price c.args.slope.width c.args.x c.requires.limits
    c.args.slope.price_limit c.args.slope.width_limit c.requires.power c.requires.line

pub returns-clause-before : goal.returns-clause-before
returns-clause-before c = λ h.
    let f = far c.args.from.now c.args.slope.price c.args.slope.width c.args.x c.requires.limits
    c.args.slope.price_limit c.args.slope.width_limit c.requires.power c.requires.line c.if-over-slope.false in
    absurd (omega (arith, ints, f, h))

pub returns-clause-after : goal.returns-clause-after
returns-clause-after c = λ h. total_is c.args.from.now c.args.slope.price c.args.slope.width c.args.x c.requires.limits
    c.args.slope.price_limit c.args.slope.width_limit c.requires.power c.requires.line
