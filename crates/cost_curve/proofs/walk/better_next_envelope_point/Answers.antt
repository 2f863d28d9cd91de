use Rattle.cost_curve.proofs.Common.{rules, ◌≤ℤ◌, ◌<ℤ◌, arith, ints, point_at}
use Rattle.cost_curve.proofs.Lemmas.{IsBetter, IsWorse, IsWayOn-passes, LeadsOn-first, LeadsOn-takes, LeadsOn-keeps}
use Rattle.cost_curve.proofs.walk.better_next_envelope_point.Goals as goal

pub returns-then-end-start : goal.returns-then-end-start
returns-then-end-start c =
    let low : (point_at c.args.points.now c.args.index).at ≤ℤ (point_at c.args.points.now c.args.from).at =
    search rules in
    IsWayOn-passes c.args.points.now c.args.from c.args.index c.args.found c.requires.found low

pub slope_between_points-slope-requires-clause-from_limits : goal.slope_between_points-slope-requires-clause-from_limits
slope_between_points-slope-requires-clause-from_limits c = c.requires.points.points c.args.from _ (omega arith)

pub slope_between_points-slope-requires-clause-to_limits : goal.slope_between_points-slope-requires-clause-to_limits
slope_between_points-slope-requires-clause-to_limits c = c.requires.points.points c.args.index _ c.requires.within

pub returns-in-None : goal.returns-in-None
returns-in-None c =
    let up : (point_at c.args.points.now c.args.from).at <ℤ (point_at c.args.points.now c.args.index).at =
    search rules in
    LeadsOn-first c.args.points.now c.args.from c.args.index c.requires.later _ c.slope_between_points-slope.ensures
    up c.args.found
    c.requires.found c.in-None.is

pub returns-then-is_better_slope : goal.returns-then-is_better_slope
returns-then-is_better_slope c =
    let up : (point_at c.args.points.now c.args.from).at <ℤ (point_at c.args.points.now c.args.index).at =
    let most = c.slope_between_points-slope.ensures.most in let least = c.slope_between_points-slope.ensures.least in
    omega (arith, ints, most, least) in
    let better : IsBetter c.in-Some.edge.slope.price c.in-Some.edge.slope.width
    c.slope_between_points-slope.result.price
    c.slope_between_points-slope.result.width = search rules in
    LeadsOn-takes c.args.points.now c.args.from c.args.index c.requires.later _ c.slope_between_points-slope.ensures
    up c.args.found
    c.requires.found _ c.in-Some.is c.requires.points c.requires.within better

pub returns-else-is_better_slope : goal.returns-else-is_better_slope
returns-else-is_better_slope c =
    let up : (point_at c.args.points.now c.args.from).at <ℤ (point_at c.args.points.now c.args.index).at =
    let most = c.slope_between_points-slope.ensures.most in let least = c.slope_between_points-slope.ensures.least in
    omega (arith, ints, most, least) in
    let worse : IsWorse c.in-Some.edge.slope.price c.in-Some.edge.slope.width c.slope_between_points-slope.result.price
    c.slope_between_points-slope.result.width = search rules in
    LeadsOn-keeps c.args.points.now c.args.from c.args.index c.requires.later c.slope_between_points-slope.result
    c.slope_between_points-slope.ensures up c.args.found c.requires.found _ c.in-Some.is worse
