use Rattle.test_whole.proofs.Common.{refl, subst, arith, inl, inr, ℤ, pos, ◌-ℤ◌, ints, cases_lt, IsModestAt}
use Rattle.test_whole.proofs.SmallLaws.{IsSmall-from}
use Rattle.test_whole.proofs.steps.is_small.Goals as goal

pub loop-k-preserved : goal.loop-k-preserved
loop-k-preserved g c = λ j h. elim (cases_lt j c.loop-k.k) [
  | inl early ↦ c.loop-k.invariant j early
  | inr now ↦ subst (λ (x : ℤ). IsModestAt (g.S.Shape.function c.args.home.now c.args.s.now) x) {y = pos j -ℤ pos 1000}
      (omega (arith, ints)) (c.if-not-modest.ensures refl)
]

pub returns : goal.returns
returns g c = λ t.
    IsSmall-from (g.S.Shape.function c.args.home.now c.args.s.now)
    (g.met.S.Shape.within c.args.home.now c.args.s.now c.requires)
    (c.if-not-before.ensures refl) (c.if-not-after.ensures refl) (λ j h. c.loop-k.invariant j (omega arith))
