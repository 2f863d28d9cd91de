use Rattle.ramp_step.proofs.Common.{◌≡◌, ◌<◌, length, arith, ap, ◌∙◌, below_more, to_z, of_z, ◌+ℤ◌, w64, to_z-of_z}
use Rattle.ramp_step.proofs.Common.{Knot, knot, reserve_term}
use Rattle.ramp_step.proofs.Lemmas.{knot_same, knot_other}
use Rattle.ramp_step.proofs.kink.lower.Goals as goal

pub loop-i-preserved : goal.loop-i-preserved
loop-i-preserved c =
    let i = c.loop-i.i in
    let ks = c.loop-i.knots in
    let q = c.lowered.result in
    let lt : i < length ks = omega arith in
    let was : knot ks i ≡ knot c.args.knots.now i = c.loop-i.invariant.rest i (omega arith) in
    record {
      powers = below_more _ _ (λ j below. ap (λ (k : Knot). k.at) (knot_other ks i j q (omega arith)) ∙
          c.loop-i.invariant.powers j below)
          (ap (λ (k : Knot). k.at) (knot_same ks i q lt) ∙ c.lowered.ensures.at ∙ ap (λ (k : Knot). k.at) was);
      heights = below_more _ _ (λ j below. ap (λ (k : Knot). k.value) (knot_other ks i j q (omega arith)) ∙
          c.loop-i.invariant.heights j below)
          (ap (λ (k : Knot). k.value) (knot_same ks i q lt) ∙ c.lowered.ensures.value
          ∙ ap (λ (k : Knot). k.value +ℤ reserve_term (to_z w64 (of_z w64 c.args.mu)) (to_z w64 (of_z w64 c.args.cap))
          (to_z w64 (of_z w64 c.args.up)) k.at) was);
      rest = λ j past. knot_other ks i j q (omega arith) ∙ c.loop-i.invariant.rest j (omega arith);
    }

pub lowered-requires-clause-after : goal.lowered-requires-clause-after
lowered-requires-clause-after c =
    let i = c.loop-i.i in
    let was : knot c.loop-i.knots i ≡ knot c.args.knots.now i = c.loop-i.invariant.rest i (omega arith) in
    rw (
      was,
      to_z-of_z w64 c.args.mu c.ranges.mu,
      to_z-of_z w64 c.args.cap c.ranges.cap,
      to_z-of_z w64 c.args.up c.ranges.up,
    ) (c.requires.after i (omega arith))

pub returns : goal.returns
returns c =
    let heights = rw (
      to_z-of_z w64 c.args.mu c.ranges.mu,
      to_z-of_z w64 c.args.cap c.ranges.cap,
      to_z-of_z w64 c.args.up c.ranges.up,
    ) at c.loop-i.invariant.heights in
    record {
      powers = λ k h. c.loop-i.invariant.powers k (omega arith);
      heights = λ k h. heights k (omega arith);
    }
