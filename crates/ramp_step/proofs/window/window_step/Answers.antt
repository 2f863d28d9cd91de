use Rattle.ramp_step.proofs.Common.{◌≡◌, arith, to_z, of_z, w64, to_z-of_z, IsWindow}
use Rattle.ramp_step.proofs.Lemmas.{shape_of, AreBreaks-from, IsWindow-from_knots, IsWindow-cut, within_of}
use Rattle.ramp_step.proofs.window.window_step.Goals as goal
use Rattle.ramp_step.proofs.window.window_step.Goals.{After-cut_below-left}

pub shift-moved-requires-clause-stand : goal.shift-moved-requires-clause-stand
shift-moved-requires-clause-stand c = shape_of c.args.knots.now c.args.used c.requires.breaks

pub shift-moved-requires-clause-powers : goal.shift-moved-requires-clause-powers
shift-moved-requires-clause-powers c = (within_of c.args.knots.now c.args.used c.requires.breaks).powers

pub shift-moved-requires-clause-amounts : goal.shift-moved-requires-clause-amounts
shift-moved-requires-clause-amounts c = (within_of c.args.knots.now c.args.used c.requires.breaks).amounts

pub cut_above-kept-requires-clause-stand : goal.cut_above-kept-requires-clause-stand
cut_above-kept-requires-clause-stand c =
    let shape = shape_of c.args.knots.now c.args.used c.requires.breaks in
    let g = c.shift-moved.ensures.window.function shape.0 shape.1 in
    (g.0, g.1)

pub cut_below-left-requires-clause-stand : goal.cut_below-left-requires-clause-stand
cut_below-left-requires-clause-stand c =
    let shape = shape_of c.args.knots.now c.args.used c.requires.breaks in
    let g = c.shift-moved.ensures.window.function shape.0 shape.1 in
    (g.0, c.cut_above-kept.ensures.cut.function g.0 g.1)

on_knots : (c : After-cut_below-left) → IsWindow c.args.up c.args.down c.args.lo c.args.hi c.args.knots.now c.args.used
    c.cut_below-left.new.knots c.cut_below-left.result
on_knots c =
    let e-down : to_z w64 (of_z w64 c.args.down) ≡ c.args.down = to_z-of_z w64 _ c.ranges.down in
    let e-lo : to_z w64 (of_z w64 c.args.lo) ≡ c.args.lo = to_z-of_z w64 _ c.ranges.lo in
    let e-hi : to_z w64 (of_z w64 c.args.hi) ≡ c.args.hi = to_z-of_z w64 _ c.ranges.hi in
    IsWindow-cut c.args.knots.now c.shift-moved.new.knots c.cut_above-kept.new.knots c.cut_below-left.new.knots
    c.args.used c.shift-moved.result c.cut_above-kept.result c.cut_below-left.result c.args.up c.args.down c.args.lo
    c.args.hi
    (rw (to_z-of_z w64 c.args.up c.ranges.up, e-down) at c.shift-moved.ensures.window)
    (rw e-hi at c.cut_above-kept.ensures.cut) (rw e-lo at c.cut_below-left.ensures.cut) (omega arith)

pub returns : goal.returns
returns c =
    let new = c.cut_below-left.new.knots in
    let shape = shape_of c.args.knots.now c.args.used c.requires.breaks in
    let on = on_knots (goal.at.returns c).After-cut_below-left in
    let w = IsWindow-from_knots c.args.knots.now new c.args.used c.cut_below-left.result c.args.up c.args.down c.args.lo
    c.args.hi shape on in
    let g = on.function shape.0 shape.1 in
    record {
      window = w;
      breaks = AreBreaks-from new c.cut_below-left.result (g.0, g.1)
          (c.operations_keep_limits.ensures.window c.args.up c.args.down c.args.lo c.args.hi _ _ c.requires.lo
          c.requires.hi w c.requires.breaks.within);
      charge = omega arith;
    }
