use Rattle.ramp_step.proofs.Common.{ℤ, ◌+ℤ◌, ◌*ℤ◌, w64, to_z-of_z, power, StandFor}
use Rattle.ramp_step.proofs.Lemmas.{is_inside, StandFor-raised, HaveSameEnds-raised, line_straight, straight_convex}
use Rattle.ramp_step.proofs.Lemmas.{shape_of, within_of, can_add, sum, sum_breaks}
use Rattle.ramp_step.proofs.line.line_step.Goals as goal

pub raise_line-requires : goal.raise_line-requires
raise_line-requires c =
    let ks = c.args.knots.now in
    let n = c.args.used in
    let b = c.requires.breaks in
    let shape = shape_of ks n b in
    let s = shape.1 in
    let fits = can_add ks n b (λ x. c.args.slope *ℤ x) c.requires.fits shape.0 s in
    let within = within_of ks n b in
    record {
      room = c.requires.room;
      powers = within.powers;
      before = within.amounts;
      after = λ k h. rw (s.meet k h, to_z-of_z w64 c.args.slope c.ranges.slope)
          ((fits (power ks k) (is_inside ks n shape.0 k s h)).2);
    }

pub returns : goal.returns
returns c =
    let ks = c.args.knots.now in
    let n = c.args.used in
    let raised = rw (to_z-of_z w64 c.args.slope c.ranges.slope) at c.raise_line.ensures in
    let term : ℤ → ℤ = λ x. c.args.slope *ℤ x in
    let ends = HaveSameEnds-raised term n ks c.raise_line.new.knots raised in
    let step : (f : ℤ → ℤ) → StandFor ks n f → StandFor c.raise_line.new.knots n (λ x. f x +ℤ term x) =
    λ f s. StandFor-raised term n ks c.raise_line.new.knots f s raised
    (λ k h x from to. line_straight c.args.slope x) (λ x from to. straight_convex _ _ (line_straight c.args.slope x)) in
    record {
      sum = sum ks n c.requires.breaks term c.raise_line.new.knots n step ends;
      breaks = sum_breaks ks n c.requires.breaks term c.raise_line.new.knots n step ends
          c.operations_keep_limits.ensures.sum c.requires.fits;
    }
