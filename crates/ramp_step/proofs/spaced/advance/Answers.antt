use Rattle.ramp_step.proofs.Common.{◌≡◌, ◌≢◌, ℕ, ◌+◌, ◌-◌, ◌<◌, length, ap, sym, ◌∙◌, subst, arith, inl, inr, slice_set}
use Rattle.ramp_step.proofs.Common.{ints, cases_lt, Knot, knot}
use Rattle.ramp_step.proofs.Lemmas.{knot_same, knot_other, IsMovedOn-stop}
use Rattle.ramp_step.proofs.spaced.advance.Goals as goal

pub loop-i-preserved : goal.loop-i-preserved
loop-i-preserved c =
    let i = c.loop-i.i in
    let room = c.args.room in
    let ks = c.loop-i.knots in
    let q : Knot = knot ks (i + room) in
    let was = c.loop-i.invariant in
    let lt : i < length ks = omega arith in
    let other = λ (k : ℕ) (ne : k ≢ i). knot_other ks i k q ne in
    let same : q ≡ knot c.args.knots.now (i + room) = was.rest (i + room) (omega arith) in
    record {
      before = λ k h. other k (omega arith) ∙ was.before k h;
      moved = λ k h l. elim (cases_lt k i) [
        | inl passed ↦ other k (omega arith) ∙ was.moved k h passed
        | inr here ↦
            let e : k ≡ i = omega arith in
            subst (λ (z : ℕ). knot (slice_set ks i q) z ≡ knot c.args.knots.now (z + room)) (sym e)
            (knot_same ks i q lt ∙ same)
      ];
      rest = λ k h. other k (omega arith) ∙ was.rest k (omega arith);
      below = λ k h l. elim (cases_lt k i) [
        | inl passed ↦ was.below k h passed
        | inr here ↦
            let e = ap (λ (z : ℕ). (knot c.args.knots.now (z + room)).at) {x = k} {y = i} (omega arith) in
            let at = ap (λ (p : Knot). p.at) same in
            omega (arith, ints)
      ];
    }

pub returns-then-knot-x : goal.returns-then-knot-x
returns-then-knot-x c =
    let i = c.loop-i.i in
    let was = c.loop-i.invariant in
    IsMovedOn-stop c.args.knots.now c.loop-i.knots c.args.front c.args.room i (c.args.total - c.args.room) c.args.x
    (omega arith) (omega arith) (omega arith) (omega arith) was.before was.moved was.rest
    (λ k h l. let b = was.below k h l in omega (arith, ints))
    (λ h. let at = ap (λ (p : Knot). p.at) (was.rest (i + c.args.room) (omega arith)) in omega (arith, ints))

pub returns : goal.returns
returns c =
    let n = c.args.total - c.args.room in
    let was = c.loop-i.invariant in
    IsMovedOn-stop c.args.knots.now c.loop-i.knots c.args.front c.args.room n n c.args.x
    (omega arith) (omega arith) (omega arith) (omega arith) was.before (λ k h l. was.moved k h (omega arith))
    (λ k h. was.rest k (omega arith))
    (λ k h l. let b = was.below k h (omega arith) in omega (arith, ints))
    (λ h. absurd (omega arith))
