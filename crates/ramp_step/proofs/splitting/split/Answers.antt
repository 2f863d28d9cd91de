use Rattle.ramp_step.proofs.Common.{◌≡◌, ◌-◌, arith, inl, inr, to_z, of_z, w64, ints, to_z-of_z}
use Rattle.ramp_step.proofs.Lemmas.{IsSplit-still, IsSplit-inserted, IsLimited-inserted, on_line_between}
use Rattle.ramp_step.proofs.Lemmas.{within_between}
use Rattle.ramp_step.proofs.splitting.split.Goals as goal

pub returns-then-m-eq0-clause-split : goal.returns-then-m-eq0-clause-split
returns-then-m-eq0-clause-split c =
    IsSplit-still c.args.knots.now c.args.used c.below-m.result c.args.x c.requires.stand
    (rw (to_z-of_z w64 c.args.x c.ranges.x) at c.below-m.ensures) (inl (omega arith))

pub returns-then-m-used-clause-split : goal.returns-then-m-used-clause-split
returns-then-m-used-clause-split c =
    IsSplit-still c.args.knots.now c.args.used c.below-m.result c.args.x c.requires.stand
    (rw (to_z-of_z w64 c.args.x c.ranges.x) at c.below-m.ensures) (inr (inl (omega arith)))

pub returns-then-knots-m-clause-split : goal.returns-then-knots-m-clause-split
returns-then-knots-m-clause-split c =
    IsSplit-still c.args.knots.now c.args.used c.below-m.result c.args.x c.requires.stand
    (rw (to_z-of_z w64 c.args.x c.ranges.x) at c.below-m.ensures) (inr (inr (omega (arith, ints))))

pub between-knot-requires-clause-line : goal.between-knot-requires-clause-line
between-knot-requires-clause-line c =
    let e : to_z w64 (of_z w64 c.args.x) ≡ c.args.x = to_z-of_z w64 _ c.ranges.x in
    let b = rw e at c.below-m.ensures in
    let m = c.below-m.result in
    let low = b.before (m - 1) (omega arith) in
    let high = b.after (omega arith) in
    rw e (on_line_between c.args.knots.now c.args.used m c.requires.stand.0 c.requires.stand.1 (omega arith)
    (omega arith) c.args.x (omega (arith, ints)) high)

pub between-knot-requires-clause-within : goal.between-knot-requires-clause-within
between-knot-requires-clause-within c =
    within_between c.args.knots.now c.args.used c.below-m.result c.requires.limits (omega arith) (omega arith)

pub returns : goal.returns
returns c =
    let e = to_z-of_z w64 c.args.x c.ranges.x in
    let b = rw e at c.below-m.ensures in
    let is = rw e at c.between-knot.ensures in
    let m = c.below-m.result in
    let low = b.before (m - 1) (omega arith) in
    let high = b.after (omega arith) in
    let p = c.requires.limits.powers (m - 1) (omega arith) in
    let q = c.requires.limits.powers m (omega arith) in
    record {
      split = IsSplit-inserted c.args.knots.now c.insert.new.knots c.args.used m c.args.x c.between-knot.result
          c.requires.stand b
          (omega arith) (omega arith) (λ same. omega (arith, ints)) is c.insert.ensures;
      limits = IsLimited-inserted c.args.knots.now c.insert.new.knots c.args.used m c.between-knot.result
          c.requires.limits (omega arith) c.insert.ensures
          (omega (arith, ints), omega (arith, ints)) is.amount;
      charge = omega arith;
    }
