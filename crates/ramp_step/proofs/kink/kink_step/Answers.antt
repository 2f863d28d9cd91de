use Rattle.ramp_step.proofs.Common.{◌≡◌, ◌+◌, ◌-◌, arith, to_z, of_z, ℤ, ◌+ℤ◌, ◌-ℤ◌, w64, ints, to_z-of_z, power}
use Rattle.ramp_step.proofs.Common.{StandFor, HaveSameEnds, reserve_term}
use Rattle.ramp_step.proofs.Lemmas.{is_inside, inside_same, StandFor-raised, HaveSameEnds-raised, HaveSameEnds-then}
use Rattle.ramp_step.proofs.Lemmas.{IsLimited-within, shape_of, within_of, can_add, sum, sum_breaks}
use Rattle.ramp_step.proofs.KinkLaws.{kink_straight, kink_convex}
use Rattle.ramp_step.proofs.kink.kink_step.Goals as goal
use Rattle.ramp_step.proofs.kink.kink_step.Goals.{After-lower}

pub split-n-requires-clause-stand : goal.split-n-requires-clause-stand
split-n-requires-clause-stand c = shape_of c.args.knots.now c.args.used c.requires.breaks

pub split-n-requires-clause-limits : goal.split-n-requires-clause-limits
split-n-requires-clause-limits c =
    IsLimited-within c.args.knots.now c.args.used (within_of c.args.knots.now c.args.used c.requires.breaks)

pub lower-requires-clause-after : goal.lower-requires-clause-after
lower-requires-clause-after c = λ k h.
    let ks = c.args.knots.now in
    let n = c.args.used in
    let k1 = c.split-n.new.knots in
    let shape = shape_of ks n c.requires.breaks in
    let s1 = c.split-n.ensures.split.function shape.0 shape.1 in
    let fits = can_add ks n c.requires.breaks (reserve_term c.args.mu c.args.cap c.args.up) c.requires.fits shape.0
    shape.1 in
    rw (
      s1.meet k h,
      to_z-of_z w64 c.args.mu c.ranges.mu,
      to_z-of_z w64 c.args.cap c.ranges.cap,
      to_z-of_z w64 c.args.up c.ranges.up,
    )
    ((fits (power k1 k) (inside_same ks k1 n c.split-n.result (power k1 k) c.split-n.ensures.split.ends
    (is_inside k1 c.split-n.result shape.0 k s1 h))).2)

step : (c : After-lower) → (f : ℤ → ℤ) → StandFor c.args.knots.now c.args.used f →
    StandFor c.lower.new.knots c.split-n.result (λ x. f x +ℤ reserve_term c.args.mu c.args.cap c.args.up x)
step c f s =
    let k1 = c.split-n.new.knots in
    let mu = c.args.mu in
    let cap = c.args.cap in
    let up = c.args.up in
    let e-kink : to_z w64 (of_z w64 (to_z w64 (of_z w64 c.args.cap) -ℤ to_z w64 (of_z w64 c.args.up))) ≡ cap -ℤ up =
    omega (arith, ints) in
    let split = rw e-kink at c.split-n.ensures.split in
    let raised = rw (
      to_z-of_z w64 c.args.mu c.ranges.mu,
      to_z-of_z w64 c.args.cap c.ranges.cap,
      to_z-of_z w64 c.args.up c.ranges.up,
    ) at c.lower.ensures in
    StandFor-raised (reserve_term mu cap up) c.split-n.result k1 c.lower.new.knots f (split.function f s) raised
    (λ k h. kink_straight mu cap up (power k1 k) (power k1 (k + 1)) (split.apart k h))
    (kink_convex mu cap up (power k1 0) (power k1 (c.split-n.result - 1)) c.requires.mu)

ends : (c : After-lower) → HaveSameEnds c.args.knots.now c.args.used c.lower.new.knots c.split-n.result
ends c =
    HaveSameEnds-then c.args.knots.now c.split-n.new.knots c.lower.new.knots c.args.used c.split-n.result
    c.split-n.result
    c.split-n.ensures.split.ends
    (HaveSameEnds-raised _ c.split-n.result c.split-n.new.knots c.lower.new.knots c.lower.ensures)

pub returns : goal.returns
returns c =
    let after = (goal.at.returns c).After-lower in
    record {
      sum = sum c.args.knots.now c.args.used c.requires.breaks (reserve_term c.args.mu c.args.cap c.args.up)
          c.lower.new.knots c.split-n.result (step after) (ends after);
      breaks = sum_breaks c.args.knots.now c.args.used c.requires.breaks (reserve_term c.args.mu c.args.cap c.args.up)
          c.lower.new.knots c.split-n.result (step after) (ends after)
          c.operations_keep_limits.ensures.sum c.requires.fits;
      charge = c.split-n.ensures.charge;
    }
