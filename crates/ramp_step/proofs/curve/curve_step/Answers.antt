use Rattle.ramp_step.proofs.Common.{◌≡◌, List, arith, rules, to_z, of_z, ℤ, ◌-ℤ◌, FitsSigned, w64, ints, to_z-of_z}
use Rattle.ramp_step.proofs.Common.{Block}
use Rattle.ramp_step.proofs.CurveShapeLaws.{IsOver-curve, CanAdd-curve, AreLimitedBlocks-curve}
use Rattle.ramp_step.proofs.Lemmas.{shape_of, curve_sum, curve_sum_breaks}
use Rattle.ramp_step.proofs.curve.curve_step.Goals as goal
use Rattle.ramp_step.proofs.curve.curve_step.Goals.{After-as_slice-blocks}

-- the machine's numbers are the curve's, and the blocks are its blocks
record Read (value from : ℤ) (bs : List Block) (v at shift : ℤ) (blocks : List Block) : Type 0 where
  value_is : value ≡ v
  from_is : from ≡ at -ℤ shift
  blocks_are : bs ≡ blocks

pub overflow_sub-from : goal.overflow_sub-from
overflow_sub-from c =
    let ks = c.args.knots.now in
    let n = c.args.used in
    let fits-at : FitsSigned w64 c.args.curve.now.at = search rules in
    let e-at : to_z w64 (of_z w64 c.args.curve.now.at) ≡ c.args.curve.now.at = to_z-of_z w64 _ fits-at in
    let limited = AreLimitedBlocks-curve c.args.curve.now c.args.shift ks n c.requires.some
    (shape_of ks n c.requires.breaks) c.requires.breaks.within c.requires.limited c.requires.fits in
    let start = limited.ends 0 (omega arith) in
    omega (arith, ints)

read : (c : After-as_slice-blocks) → FitsSigned w64 c.args.curve.now.value → FitsSigned w64 c.args.curve.now.at →
    Read (to_z w64 (of_z w64 c.args.curve.now.value))
    (to_z w64 (of_z w64 (to_z w64 (of_z w64 c.args.curve.now.at) -ℤ to_z w64 (of_z w64 c.args.shift))))
    c.as_slice-blocks.result.now
    c.args.curve.now.value c.args.curve.now.at c.args.shift c.args.curve.now.blocks.items
read c fits fits-at =
    let ks = c.args.knots.now in
    let n = c.args.used in
    let e-at : to_z w64 (of_z w64 c.args.curve.now.at) ≡ c.args.curve.now.at = to_z-of_z w64 _ fits-at in
    let limited = AreLimitedBlocks-curve c.args.curve.now c.args.shift ks n c.requires.some
    (shape_of ks n c.requires.breaks) c.requires.breaks.within c.requires.limited c.requires.fits in
    let start = limited.ends 0 (omega arith) in
    record { value_is = to_z-of_z w64 _ fits; from_is = omega (arith, ints); blocks_are = c.as_slice-blocks.ensures }

pub add_blocks-n-requires : goal.add_blocks-n-requires
add_blocks-n-requires c =
    let ks = c.args.knots.now in
    let n = c.args.used in
    let fits : FitsSigned w64 c.args.curve.now.value = search rules in
    let fits-at : FitsSigned w64 c.args.curve.now.at = search rules in
    let r = read (goal.at.add_blocks-n-requires c).After-as_slice-blocks fits fits-at in
    let shape = shape_of ks n c.requires.breaks in
    record {
      room = rw r.blocks_are c.requires.room;
      stand = shape;
      curve = rw (r.value_is, r.from_is, r.blocks_are)
          (AreLimitedBlocks-curve c.args.curve.now c.args.shift ks n c.requires.some shape c.requires.breaks.within
          c.requires.limited c.requires.fits);
      inside = rw (r.from_is, r.blocks_are)
          (IsOver-curve c.args.curve.now c.args.shift ks n c.requires.some shape c.requires.breaks.within
          c.requires.limited c.requires.fits);
      fits = rw (r.value_is, r.from_is, r.blocks_are)
          (CanAdd-curve c.args.curve.now c.args.shift ks n c.requires.some shape c.requires.breaks.within
          c.requires.limited c.requires.fits);
    }

pub returns : goal.returns
returns c =
    let fits : FitsSigned w64 c.args.curve.now.value = search rules in
    let fits-at : FitsSigned w64 c.args.curve.now.at = search rules in
    let r = read (goal.at.returns c).After-as_slice-blocks fits fits-at in
    let stand = rw (r.value_is, r.from_is, r.blocks_are) at c.add_blocks-n.ensures.stand in
    let charge = rw r.blocks_are at c.add_blocks-n.ensures.charge in
    record {
      sum = curve_sum c.args.knots.now c.args.used c.requires.breaks c.args.curve.now c.args.shift c.requires.some
          c.requires.limited c.requires.fits
          c.add_blocks-n.new.knots c.add_blocks-n.result stand c.add_blocks-n.ensures.ends;
      breaks = curve_sum_breaks c.args.knots.now c.args.used c.requires.breaks c.args.curve.now c.args.shift
          c.requires.some c.requires.limited c.requires.fits
          c.add_blocks-n.new.knots c.add_blocks-n.result stand c.add_blocks-n.ensures.ends
          c.operations_keep_limits.ensures.curve;
      charge = charge;
    }
