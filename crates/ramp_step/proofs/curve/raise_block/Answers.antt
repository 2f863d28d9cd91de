use Rattle.ramp_step.proofs.Common.{◌≡◌, ◌≢◌, ℕ, ◌<◌, length, ap, sym, ◌∙◌, subst, arith, inl, inr, to_z, of_z}
use Rattle.ramp_step.proofs.Common.{slice_set, ◌+ℤ◌, w64, ints, to_z-of_z, cases_lt, Knot, knot, power, height}
use Rattle.ramp_step.proofs.Common.{line_from}
use Rattle.ramp_step.proofs.Lemmas.{knot_same, knot_other}
use Rattle.ramp_step.proofs.curve.raise_block.Goals as goal

pub on_block-requires-clause-fits : goal.on_block-requires-clause-fits
on_block-requires-clause-fits c =
    let i = c.loop-i.i in
    let was : knot c.loop-i.knots i ≡ knot c.args.knots.now i = c.loop-i.invariant.rest i (omega arith) in
    let at = ap (λ (q : Knot). q.at) was in
    let e-price : to_z w64 (of_z w64 c.args.price) ≡ c.args.price = to_z-of_z w64 _ c.ranges.price in
    rw (to_z-of_z w64 c.args.start c.ranges.start, to_z-of_z w64 c.args.level c.ranges.level, e-price, was)
    (c.requires.fits i (omega arith) (omega arith) (omega (arith, ints)))

pub loop-i-preserved : goal.loop-i-preserved
loop-i-preserved c =
    let i = c.loop-i.i in
    let ks = c.loop-i.knots in
    let q : Knot = c.on_block.result in
    let was = c.loop-i.invariant in
    let lt : i < length ks = omega arith in
    let other = λ (k : ℕ) (ne : k ≢ i). knot_other ks i k q ne in
    let same : knot ks i ≡ knot c.args.knots.now i = was.rest i (omega arith) in
    let here = knot_same ks i q lt in
    let line = line_from (to_z w64 (of_z w64 c.args.start)) (to_z w64 (of_z w64 c.args.level))
    (to_z w64 (of_z w64 c.args.price)) in
    record {
      before = λ k h. other k (omega arith) ∙ was.before k h;
      powers = λ k h l. elim (cases_lt k i) [
        | inl passed ↦ ap (λ (p : Knot). p.at) (other k (omega arith)) ∙ was.powers k h passed
        | inr now ↦
            let e : k ≡ i = omega arith in
            subst (λ (z : ℕ). power (slice_set ks i q) z ≡ power c.args.knots.now z) (sym e)
            (ap (λ (p : Knot). p.at) here ∙ c.on_block.ensures.at ∙ ap (λ (p : Knot). p.at) same)
      ];
      heights = λ k h l. elim (cases_lt k i) [
        | inl passed ↦ ap (λ (p : Knot). p.value) (other k (omega arith)) ∙ was.heights k h passed
        | inr now ↦
            let e : k ≡ i = omega arith in
            subst (λ (z : ℕ). height (slice_set ks i q) z ≡ height c.args.knots.now z +ℤ line
            (power c.args.knots.now z)) (sym e)
            (ap (λ (p : Knot). p.value) here ∙ c.on_block.ensures.value
            ∙ ap (λ (p : Knot). p.value +ℤ line p.at) same)
      ];
      upto = λ k h l. elim (cases_lt k i) [
        | inl passed ↦ was.upto k h passed
        | inr now ↦
            let e = ap (λ (z : ℕ). power c.args.knots.now z) {x = k} {y = i} (omega arith) in
            let at = ap (λ (p : Knot). p.at) same in
            omega (arith, ints)
      ];
      rest = λ k h. other k (omega arith) ∙ was.rest k (omega arith);
    }

pub returns-then-knot-end : goal.returns-then-knot-end
returns-then-knot-end c =
    let was = c.loop-i.invariant in
    let same = was.rest c.loop-i.i (omega arith) in
    record {
      from = omega arith;
      to = omega arith;
      before = was.before;
      powers = was.powers;
      heights = rw (
        to_z-of_z w64 c.args.start c.ranges.start,
        to_z-of_z w64 c.args.level c.ranges.level,
        to_z-of_z w64 c.args.price c.ranges.price,
      ) at was.heights;
      upto = λ k h l. let u = was.upto k h l in omega (arith, ints);
      after = was.rest;
      beyond = λ h. let at = ap (λ (p : Knot). p.at) same in omega (arith, ints);
    }

pub returns : goal.returns
returns c =
    let was = c.loop-i.invariant in
    let heights = rw (
      to_z-of_z w64 c.args.start c.ranges.start,
      to_z-of_z w64 c.args.level c.ranges.level,
      to_z-of_z w64 c.args.price c.ranges.price,
    ) at was.heights in
    record {
      from = omega arith;
      to = omega arith;
      before = was.before;
      powers = λ k h l. was.powers k h (omega arith);
      heights = λ k h l. heights k h (omega arith);
      upto = λ k h l. let u = was.upto k h (omega arith) in omega (arith, ints);
      after = λ k h. was.rest k (omega arith);
      beyond = λ h. absurd (omega arith);
    }
