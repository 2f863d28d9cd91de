use Rattle.ramp_step.proofs.Common.{arith, w64, ints, to_z-of_z}
use Rattle.ramp_step.proofs.Lemmas.{AreWindow-still, AreWindow-spread, IsLimited-still, IsLimited-spread}
use Rattle.ramp_step.proofs.window.shift.Goals as goal

pub returns-then-reach-eq0-clause-window : goal.returns-then-reach-eq0-clause-window
returns-then-reach-eq0-clause-window c =
    AreWindow-still c.args.knots.now c.args.used c.args.up c.args.down c.requires.some (omega (arith, ints))
    (omega (arith, ints))

pub returns-then-reach-eq0-clause-limits : goal.returns-then-reach-eq0-clause-limits
returns-then-reach-eq0-clause-limits c =
    IsLimited-still c.args.knots.now c.args.used c.requires.powers c.requires.amounts

pub returns : goal.returns
returns c =
    let spread = rw (to_z-of_z w64 c.args.up c.ranges.up, to_z-of_z w64 c.args.down c.ranges.down) at
    c.spread.ensures in
    record {
      window = AreWindow-spread c.args.knots.now c.spread.new.knots c.args.used c.turn-j.result c.args.up c.args.down
          c.requires.up c.requires.down (omega (arith, ints)) c.turn-j.ensures spread;
      limits = IsLimited-spread c.args.knots.now c.spread.new.knots c.args.used c.turn-j.result c.args.up c.args.down
          c.requires.powers c.requires.amounts c.requires.up_fits c.requires.down_fits c.turn-j.ensures.inside spread;
      charge = omega arith;
    }
