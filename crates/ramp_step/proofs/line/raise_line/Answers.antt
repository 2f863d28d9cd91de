use Rattle.ramp_step.proofs.Common.{◌≡◌, ◌<◌, length, arith, ap, ◌∙◌, below_more, to_z, of_z, ◌+ℤ◌, ◌*ℤ◌, w64}
use Rattle.ramp_step.proofs.Common.{to_z-of_z, Knot, knot}
use Rattle.ramp_step.proofs.Lemmas.{knot_same, knot_other}
use Rattle.ramp_step.proofs.line.raise_line.Goals as goal

pub on_line-requires : goal.on_line-requires
on_line-requires c =
    let i = c.loop-i.i in
    let was : knot c.loop-i.knots i ≡ knot c.args.knots.now i = c.loop-i.invariant.rest i (omega arith) in
    record {
      at = rw was (c.requires.powers i (omega arith));
      before = rw was (c.requires.before i (omega arith));
      after = rw (was, to_z-of_z w64 c.args.slope c.ranges.slope) (c.requires.after i (omega arith));
    }

pub loop-i-preserved : goal.loop-i-preserved
loop-i-preserved c =
    let i = c.loop-i.i in
    let ks = c.loop-i.knots in
    let q = c.on_line.result in
    let lt : i < length ks = omega arith in
    let was : knot ks i ≡ knot c.args.knots.now i = c.loop-i.invariant.rest i (omega arith) in
    record {
      powers = below_more _ _ (λ j below. ap (λ (k : Knot). k.at) (knot_other ks i j q (omega arith)) ∙
          c.loop-i.invariant.powers j below)
          (ap (λ (k : Knot). k.at) (knot_same ks i q lt) ∙ c.on_line.ensures.at ∙ ap (λ (k : Knot). k.at) was);
      heights = below_more _ _ (λ j below. ap (λ (k : Knot). k.value) (knot_other ks i j q (omega arith)) ∙
          c.loop-i.invariant.heights j below)
          (ap (λ (k : Knot). k.value) (knot_same ks i q lt) ∙ c.on_line.ensures.value ∙
          ap (λ (k : Knot). k.value +ℤ to_z w64 (of_z w64 c.args.slope) *ℤ k.at) was);
      rest = λ j past. knot_other ks i j q (omega arith) ∙ c.loop-i.invariant.rest j (omega arith);
    }
