use Rattle.ramp_step.proofs.Common.{◌≡◌, ◌<◌, length, arith, ap, ◌∙◌, below_more, Knot, knot, ◌-ℤ◌, w64, to_z, of_z}
use Rattle.ramp_step.proofs.Lemmas.{knot_same, knot_other}
use Rattle.ramp_step.proofs.window.spread.Goals as goal

pub loop-i-preserved : goal.loop-i-preserved
loop-i-preserved c =
    let i = c.loop-i.i in
    let ks = c.loop-i.knots in
    let q = c.earlier.result in
    let lt : i < length ks = omega arith in
    let was : knot ks i ≡ knot c.loop-k.knots i = c.loop-i.invariant.rest i (omega arith) in
    record {
      powers = below_more _ _ (λ j below. ap (λ (k : Knot). k.at) (knot_other ks i j q (omega arith)) ∙
          c.loop-i.invariant.powers j below)
          (ap (λ (k : Knot). k.at) (knot_same ks i q lt) ∙ c.earlier.ensures.at ∙
          ap (λ (k : Knot). k.at -ℤ to_z w64 (of_z w64 c.args.down)) was);
      heights = below_more _ _ (λ j below. ap (λ (k : Knot). k.value) (knot_other ks i j q (omega arith)) ∙
          c.loop-i.invariant.heights j below)
          (ap (λ (k : Knot). k.value) (knot_same ks i q lt) ∙ c.earlier.ensures.value ∙ ap (λ (k : Knot). k.value) was);
      rest = λ j past. knot_other ks i j q (omega arith) ∙ c.loop-i.invariant.rest j (omega arith);
    }
