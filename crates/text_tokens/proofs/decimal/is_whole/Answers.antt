use Rattle.text_tokens.proofs.Common.{pos, ◌<ℤ◌, ◌≤ℤ◌, ◌%◌, nat_eq, true, refl, arith, rules, FitsSigned, w32, ints}
use Rattle.text_tokens.proofs.Common.{to_z-of_z, nat_tests}
use Rattle.text_tokens.proofs.Lemmas.{ten_up, ten_some, whole_right, whole_far, whole_none, whole_is_multiple}
use Rattle.text_tokens.proofs.Lemmas.{multiple_is_whole, same_test}
use Rattle.text_tokens.proofs.decimal.is_whole.Goals as goal

pub returns-then-d-ge0-clause-exact : goal.returns-then-d-ge0-clause-exact
returns-then-d-ge0-clause-exact c =
    let fits : FitsSigned w32 c.args.d.exponent = search rules in
    let right : pos 0 ≤ℤ c.args.d.exponent = grind (arith, ints, c.if-d-ge0.true) in
    (λ _. whole_right c.args.d.digits c.args.d.exponent right, λ _. refl)

pub returns-then-places-gt38-clause-exact : goal.returns-then-places-gt38-clause-exact
returns-then-places-gt38-clause-exact c =
    let fits : FitsSigned w32 c.args.d.exponent = search rules in
    let lt : c.args.d.exponent <ℤ pos 0 = grind (arith, ints, c.if-d-ge0.false) in
    let is = simp to_z-of_z at c.unsigned_abs-places.ensures.value in
    let far = whole_far c.args.d.digits c.args.d.exponent c.unsigned_abs-places.result lt is c.if-places-gt38.true
    (omega arith) in (
      λ t. whole_none c.args.d.digits c.args.d.exponent lt (grind (arith, nat_tests, t)),
      λ w. let none = far w in
          grind (arith, nat_tests),
    )

pub returns-clause-exact : goal.returns-clause-exact
returns-clause-exact c =
    let fits : FitsSigned w32 c.args.d.exponent = search rules in
    let lt : c.args.d.exponent <ℤ pos 0 = grind (arith, ints, c.if-d-ge0.false) in
    let is = simp to_z-of_z at c.unsigned_abs-places.ensures.value in (
      λ t. multiple_is_whole c.args.d.digits c.args.d.exponent c.unsigned_abs-places.result c.pow.result lt is
          c.pow.ensures (grind (arith, nat_tests, t)),
      λ w.
          let none = whole_is_multiple c.args.d.digits c.args.d.exponent c.unsigned_abs-places.result c.pow.result
          lt is c.pow.ensures w in
          grind (arith, nat_tests),
    )

pub pow-requires : goal.pow-requires
pow-requires c = omega (arith, ten_up c.unsigned_abs-places.result 38)

pub nonzero_rem-result : goal.nonzero_rem-result
nonzero_rem-result c = omega (arith, ten_some c.unsigned_abs-places.result)

pub returns-then-d-ge0-clause-computed : goal.returns-then-d-ge0-clause-computed
returns-then-d-ge0-clause-computed c =
    same_test true c.args.d.digits c.args.d.exponent (returns-then-d-ge0-clause-exact c)

pub returns-then-places-gt38-clause-computed : goal.returns-then-places-gt38-clause-computed
returns-then-places-gt38-clause-computed c =
    same_test (nat_eq c.args.d.digits 0) c.args.d.digits c.args.d.exponent (returns-then-places-gt38-clause-exact c)

pub returns-clause-computed : goal.returns-clause-computed
returns-clause-computed c = same_test (nat_eq (c.args.d.digits % c.pow.result) 0) c.args.d.digits c.args.d.exponent
    (returns-clause-exact c)
