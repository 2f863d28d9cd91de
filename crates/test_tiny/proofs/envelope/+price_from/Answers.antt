use Rattle.test_tiny.proofs.Common.{rules, arith, ◌≡◌, suc, ◌-◌, ◌^◌, ℤ, pos, neg_ℤ, ◌+ℤ◌, ◌-ℤ◌, ◌≤ℤ◌, subst, sym, ◌∙◌}
use Rattle.test_tiny.proofs.Common.{ints, to_z-of_z, w128, FitsSigned, rises_after}
use Rattle.test_tiny.proofs.Lemmas.{halves, half_within}
use Rattle.test_tiny.proofs.envelope.+price_from.Goals as goal

pub half-next-requires-clause-high : goal.half-next-requires-clause-high
half-next-requires-clause-high t c =
    let e = halves (c.args.steps - 1) c.args.steps (omega (arith, c.if-steps-eq0.false)) in
    let h = c.requires.high.le in
    omega (arith, ints, e, h)

pub price_from-requires : goal.price_from-requires
price_from-requires t c =
    let less : suc (c.args.steps - 1) ≡ c.args.steps = omega (arith, c.if-steps-eq0.false) in
    let a : FitsSigned w128 c.half-next.result = search rules in
    let l = c.ranges.low in
    let e = simp to_z-of_z at c.half-next.ensures in
    let is = to_z-of_z w128 c.half-next.result a ∙ e in
    let within =
    half_within (rises_after c.args.points.now (pos c.args.power)
    ((c.args.low +ℤ pos (2 ^ (c.args.steps - 1))) -ℤ pos 1)) c.args.low (c.args.steps - 1) c.args.steps less
    c.requires.low c.requires.high in (
      omega (arith, c.decreases),
      (
        c.requires.some,
        (
          c.requires.points,
          (
            omega (arith, c.requires.steps),
            (
              subst (λ (z : ℤ). neg_ℤ (pos 70368744177664) ≤ℤ z) (sym is) within.0,
              subst (λ (z : ℤ). (z +ℤ pos (2 ^ (c.args.steps - 1))) ≤ℤ pos 70368744177664) (sym is) within.1,
            ),
          ),
        ),
      ),
    )
