use Rattle.ramp_step.proofs.Common.{◌≡◌, ℕ, ◌<◌, ◌+◌, ◌-◌, ap, arith, inl, inr, to_z, of_z, w64, ints, to_z-of_z}
use Rattle.ramp_step.proofs.Common.{cases_lt, power, IsInside, curve_term}
use Rattle.ramp_step.proofs.Lemmas.{is_inside, inside_same, StandFor-raised, HaveSameEnds-raised, HaveSameEnds-then}
use Rattle.ramp_step.proofs.Lemmas.{curve_straight, curve_convex}
use Rattle.ramp_step.proofs.curve.add_blocks.Goals as goal
use Rattle.ramp_step.proofs.curve.add_blocks.Goals.{After-split_all-n}

pub split_all-n-requires-clause-limits : goal.split_all-n-requires-clause-limits
split_all-n-requires-clause-limits c =
    let ks = c.args.knots.now in
    let f = c.requires.stand.0 in
    let s = c.requires.stand.1 in
    record {
      powers = λ k h.
          let r = (c.requires.fits f s (power ks k) (is_inside ks c.args.used f k s h)).0 in
          (omega (arith, ints), omega (arith, ints));
      amounts = λ k h. rw (s.meet k h) ((c.requires.fits f s (power ks k) (is_inside ks c.args.used f k s h)).1);
    }

-- the powers after the splits are on the curve
inside : (c : After-split_all-n) (k : ℕ) → k < c.split_all-n.result →
    IsInside c.args.knots.now c.args.used (power c.split_all-n.new.knots k)
inside c k h =
    inside_same c.args.knots.now c.split_all-n.new.knots c.args.used c.split_all-n.result
    (power c.split_all-n.new.knots k) c.split_all-n.ensures.refined.ends
    (is_inside c.split_all-n.new.knots c.split_all-n.result c.requires.stand.0 k
    (c.split_all-n.ensures.refined.function c.requires.stand.0 c.requires.stand.1) h)

pub raise_curve-requires : goal.raise_curve-requires
raise_curve-requires c =
    let k1 = c.split_all-n.new.knots in
    let f = c.requires.stand.0 in
    let s1 = c.split_all-n.ensures.refined.function f c.requires.stand.1 in
    let in_old = inside (goal.at.raise_curve-requires c).After-split_all-n in
    let e-value = to_z-of_z w64 c.args.value c.ranges.value in
    let e-start = to_z-of_z w64 c.args.from c.ranges.from in
    record {
      room = omega arith;
      curve = rw (e-value, e-start) c.requires.curve;
      rise = s1.rise;
      low = λ k h. rw e-start (c.requires.inside (power k1 k) (in_old k h)).0;
      high = λ k h. rw e-start (c.requires.inside (power k1 k) (in_old k h)).1;
      before = c.split_all-n.ensures.limits.amounts;
      after = λ k h. rw (s1.meet k h, e-value, e-start)
          ((c.requires.fits f c.requires.stand.1 (power k1 k) (in_old k h)).2);
    }

pub returns-clause-stand : goal.returns-clause-stand
returns-clause-stand c = λ f s.
    let k1 = c.split_all-n.new.knots in
    let n = c.split_all-n.result in
    let bs = c.args.blocks.now in
    let v = c.args.value in
    let start = c.args.from in
    let e-start : to_z w64 (of_z w64 c.args.from) ≡ start = to_z-of_z w64 _ c.ranges.from in
    let refined = rw e-start at c.split_all-n.ensures.refined in
    let raised = rw (to_z-of_z w64 c.args.value c.ranges.value, e-start) at c.raise_curve.ensures in
    let s1 = refined.function f s in
    StandFor-raised (curve_term v bs start) n k1 c.raise_curve.new.knots f s1 raised
    (λ k h. curve_straight v bs start (power k1 k) (power k1 (k + 1)) (refined.apart k h))
    (λ x from to. elim (cases_lt 0 n) [
      | inl some ↦ curve_convex v c.requires.curve.lowest bs start (power k1 0) (power k1 (n - 1))
          c.requires.curve.blocks
          (c.requires.inside (power k1 0) (inside (goal.at.returns-clause-stand c).After-split_all-n 0 some)).0
          (c.requires.inside (power k1 (n - 1))
          (inside (goal.at.returns-clause-stand c).After-split_all-n (n - 1) (omega arith))).1
          x from to
      | inr none ↦ let e : power k1 (n - 1) ≡ power k1 0 = ap (power k1) (omega arith) in absurd (omega (arith, ints))
    ])

pub returns-clause-ends : goal.returns-clause-ends
returns-clause-ends c =
    HaveSameEnds-then c.args.knots.now c.split_all-n.new.knots c.raise_curve.new.knots c.args.used c.split_all-n.result
    c.split_all-n.result
    c.split_all-n.ensures.refined.ends
    (HaveSameEnds-raised _ c.split_all-n.result c.split_all-n.new.knots c.raise_curve.new.knots
    c.raise_curve.ensures)
