use Rattle.test_shapes.proofs.Common.{rules, ◌≡◌, ◌+◌, ℤ, pos, ◌+ℤ◌, ◌-ℤ◌, ◌*ℤ◌, ◌≤ℤ◌, ◌<ℤ◌, Some, ◌∷◌, get_or, drop}
use Rattle.test_shapes.proofs.Common.{sym, ap, ◌∙◌, subst, w64, FitsSigned, to_z, of_z, arith, ints, to_z-of_z}
use Rattle.test_shapes.proofs.Common.{drop_more, Block, curve_value, fits64}
use Rattle.test_shapes.proofs.Lemmas.{IsReached, IsReached-start, value_amount, near_amount, near_value, width_power}
use Rattle.test_shapes.proofs.Lemmas.{far_amount, IsReached-past}
use Rattle.test_shapes.proofs.curves.curve_at.Goals as goal

abbrev no_block : Block
no_block = record { width = pos 0; price = pos 0 }

pub overflow_sub-reached : goal.overflow_sub-reached
overflow_sub-reached c =
    let h = IsReached-start c.args.c.now c.args.x c.requires.inside c.requires.curve in
    let low = h.least in
    let high = h.most in
    let first = c.requires.curve.first_power.at_least in
    let first_most = c.requires.curve.first_power.at_most in
    let a = to_z-of_z w64 c.args.x c.ranges.x in
    let f : FitsSigned w64 c.args.c.now.at =
    fits64 c.args.c.now.at (omega (arith, ints, first)) (omega (arith, ints, first_most)) in
    let b = to_z-of_z w64 c.args.c.now.at f in
    fits64 (to_z w64 (of_z w64 c.args.x) -ℤ to_z w64 (of_z w64 c.args.c.now.at)) (omega (arith, ints, a, b, low))
    (omega (arith, ints, a, b, high))

pub loop-block-init : goal.loop-block-init
loop-block-init c =
    let h = IsReached-start c.args.c.now c.args.x c.requires.inside c.requires.curve in
    let low = h.least in
    let high = h.most in
    let first = c.requires.curve.first_power.at_least in
    let first_most = c.requires.curve.first_power.at_most in
    let a = to_z-of_z w64 c.args.x c.ranges.x in
    let f : FitsSigned w64 c.args.c.now.at =
    fits64 c.args.c.now.at (omega (arith, ints, first)) (omega (arith, ints, first_most)) in
    let b = to_z-of_z w64 c.args.c.now.at f in
    let v : FitsSigned w64 c.args.c.now.value = search rules in
    let d : to_z w64 (of_z w64 c.args.x) -ℤ to_z w64 (of_z w64 c.args.c.now.at) ≡ c.args.x -ℤ c.args.c.now.at =
    omega (arith, ints, a, b) in
    let e = ap (λ (z : ℤ). to_z w64 (of_z w64 z)) d ∙
    to_z-of_z w64 (c.args.x -ℤ c.args.c.now.at)
    (fits64 (c.args.x -ℤ c.args.c.now.at) (omega (arith, ints, low)) (omega (arith, ints, high))) in
    subst (λ bs. IsReached (curve_value c.args.c.now (to_z w64 (of_z w64 c.args.x))) bs
    (to_z w64 (of_z w64 c.args.c.now.value))
    (to_z w64 (of_z w64 (to_z w64 (of_z w64 c.args.x) -ℤ to_z w64 (of_z w64 c.args.c.now.at)))))
    (sym c.as_slice-blocks.ensures)
    (subst (λ r. IsReached (curve_value c.args.c.now (to_z w64 (of_z w64 c.args.x))) c.args.c.now.blocks.items
    (to_z w64 (of_z w64 c.args.c.now.value)) r) (sym e)
    (subst (λ z. IsReached (curve_value c.args.c.now (to_z w64 (of_z w64 c.args.x))) c.args.c.now.blocks.items z
    (c.args.x -ℤ c.args.c.now.at)) (sym (to_z-of_z w64 c.args.c.now.value v))
    (subst (λ z. IsReached (curve_value c.args.c.now z) c.args.c.now.blocks.items c.args.c.now.value
    (c.args.x -ℤ c.args.c.now.at)) (sym a) h)))

pub within_block-requires-clause-value : goal.within_block-requires-clause-value
within_block-requires-clause-value c =
    let known : IsReached (curve_value c.args.c.now (to_z w64 (of_z w64 c.args.x)))
    ((get_or c.as_slice-blocks.result.now c.loop-block.block-index no_block)
    ∷ (drop (c.loop-block.block-index + 1) c.as_slice-blocks.result.now)) c.loop-block.reached.value
    c.loop-block.reached.rest =
    subst (λ z. IsReached (curve_value c.args.c.now (to_z w64 (of_z w64 c.args.x))) z c.loop-block.reached.value
    c.loop-block.reached.rest) (drop_more c.as_slice-blocks.result.now c.loop-block.block-index no_block
    c.loop-block-test.true) c.loop-block.invariant in
    value_amount (curve_value c.args.c.now (to_z w64 (of_z w64 c.args.x)))
    (get_or c.as_slice-blocks.result.now c.loop-block.block-index no_block)
    (drop (c.loop-block.block-index + 1) c.as_slice-blocks.result.now) c.loop-block.reached.value
    c.loop-block.reached.rest known

pub within_block-requires-clause-sum : goal.within_block-requires-clause-sum
within_block-requires-clause-sum c =
    let known : IsReached (curve_value c.args.c.now (to_z w64 (of_z w64 c.args.x)))
    ((get_or c.as_slice-blocks.result.now c.loop-block.block-index no_block)
    ∷ (drop (c.loop-block.block-index + 1) c.as_slice-blocks.result.now)) c.loop-block.reached.value
    c.loop-block.reached.rest =
    subst (λ z. IsReached (curve_value c.args.c.now (to_z w64 (of_z w64 c.args.x))) z c.loop-block.reached.value
    c.loop-block.reached.rest) (drop_more c.as_slice-blocks.result.now c.loop-block.block-index no_block
    c.loop-block-test.true) c.loop-block.invariant in
    let near : c.loop-block.reached.rest ≤ℤ (get_or c.as_slice-blocks.result.now c.loop-block.block-index
    no_block).width = search rules in
    near_amount (curve_value c.args.c.now (to_z w64 (of_z w64 c.args.x)))
    (get_or c.as_slice-blocks.result.now c.loop-block.block-index no_block)
    (drop (c.loop-block.block-index + 1) c.as_slice-blocks.result.now) c.loop-block.reached.value
    c.loop-block.reached.rest known near

pub returns-then-reached-block : goal.returns-then-reached-block
returns-then-reached-block c =
    let known : IsReached (curve_value c.args.c.now (to_z w64 (of_z w64 c.args.x)))
    ((get_or c.as_slice-blocks.result.now c.loop-block.block-index no_block)
    ∷ (drop (c.loop-block.block-index + 1) c.as_slice-blocks.result.now)) c.loop-block.reached.value
    c.loop-block.reached.rest =
    subst (λ z. IsReached (curve_value c.args.c.now (to_z w64 (of_z w64 c.args.x))) z c.loop-block.reached.value
    c.loop-block.reached.rest) (drop_more c.as_slice-blocks.result.now c.loop-block.block-index no_block
    c.loop-block-test.true) c.loop-block.invariant in
    let near : c.loop-block.reached.rest ≤ℤ (get_or c.as_slice-blocks.result.now c.loop-block.block-index
    no_block).width = search rules in
    let f : FitsSigned w64 c.within_block.result = search rules in
    ap (curve_value c.args.c.now) (sym (to_z-of_z w64 c.args.x c.ranges.x)) ∙
    near_value (curve_value c.args.c.now (to_z w64 (of_z w64 c.args.x)))
    (get_or c.as_slice-blocks.result.now c.loop-block.block-index no_block)
    (drop (c.loop-block.block-index + 1) c.as_slice-blocks.result.now) c.loop-block.reached.value
    c.loop-block.reached.rest known near ∙ ap Some (sym c.within_block.ensures) ∙
    ap Some (sym (to_z-of_z w64 c.within_block.result f))

pub after_block-reached-requires-clause-value : goal.after_block-reached-requires-clause-value
after_block-reached-requires-clause-value c =
    let known : IsReached (curve_value c.args.c.now (to_z w64 (of_z w64 c.args.x)))
    ((get_or c.as_slice-blocks.result.now c.loop-block.block-index no_block)
    ∷ (drop (c.loop-block.block-index + 1) c.as_slice-blocks.result.now)) c.loop-block.reached.value
    c.loop-block.reached.rest =
    subst (λ z. IsReached (curve_value c.args.c.now (to_z w64 (of_z w64 c.args.x))) z c.loop-block.reached.value
    c.loop-block.reached.rest) (drop_more c.as_slice-blocks.result.now c.loop-block.block-index no_block
    c.loop-block-test.true) c.loop-block.invariant in
    value_amount (curve_value c.args.c.now (to_z w64 (of_z w64 c.args.x)))
    (get_or c.as_slice-blocks.result.now c.loop-block.block-index no_block)
    (drop (c.loop-block.block-index + 1) c.as_slice-blocks.result.now) c.loop-block.reached.value
    c.loop-block.reached.rest known

pub after_block-reached-requires-clause-sum : goal.after_block-reached-requires-clause-sum
after_block-reached-requires-clause-sum c =
    let known : IsReached (curve_value c.args.c.now (to_z w64 (of_z w64 c.args.x)))
    ((get_or c.as_slice-blocks.result.now c.loop-block.block-index no_block)
    ∷ (drop (c.loop-block.block-index + 1) c.as_slice-blocks.result.now)) c.loop-block.reached.value
    c.loop-block.reached.rest =
    subst (λ z. IsReached (curve_value c.args.c.now (to_z w64 (of_z w64 c.args.x))) z c.loop-block.reached.value
    c.loop-block.reached.rest) (drop_more c.as_slice-blocks.result.now c.loop-block.block-index no_block
    c.loop-block-test.true) c.loop-block.invariant in
    far_amount (curve_value c.args.c.now (to_z w64 (of_z w64 c.args.x)))
    (get_or c.as_slice-blocks.result.now c.loop-block.block-index no_block)
    (drop (c.loop-block.block-index + 1) c.as_slice-blocks.result.now) c.loop-block.reached.value
    c.loop-block.reached.rest known

pub after_block-reached-requires-clause-width : goal.after_block-reached-requires-clause-width
after_block-reached-requires-clause-width c =
    let known : IsReached (curve_value c.args.c.now (to_z w64 (of_z w64 c.args.x)))
    ((get_or c.as_slice-blocks.result.now c.loop-block.block-index no_block)
    ∷ (drop (c.loop-block.block-index + 1) c.as_slice-blocks.result.now)) c.loop-block.reached.value
    c.loop-block.reached.rest =
    subst (λ z. IsReached (curve_value c.args.c.now (to_z w64 (of_z w64 c.args.x))) z c.loop-block.reached.value
    c.loop-block.reached.rest) (drop_more c.as_slice-blocks.result.now c.loop-block.block-index no_block
    c.loop-block-test.true) c.loop-block.invariant in
    let far : (get_or c.as_slice-blocks.result.now c.loop-block.block-index no_block).width <ℤ c.loop-block.reached.rest
    = search rules in
    width_power (curve_value c.args.c.now (to_z w64 (of_z w64 c.args.x)))
    (get_or c.as_slice-blocks.result.now c.loop-block.block-index no_block)
    (drop (c.loop-block.block-index + 1) c.as_slice-blocks.result.now) c.loop-block.reached.value
    c.loop-block.reached.rest known far

pub loop-block-preserved : goal.loop-block-preserved
loop-block-preserved c =
    let known : IsReached (curve_value c.args.c.now (to_z w64 (of_z w64 c.args.x)))
    ((get_or c.as_slice-blocks.result.now c.loop-block.block-index no_block)
    ∷ (drop (c.loop-block.block-index + 1) c.as_slice-blocks.result.now)) c.loop-block.reached.value
    c.loop-block.reached.rest =
    subst (λ z. IsReached (curve_value c.args.c.now (to_z w64 (of_z w64 c.args.x))) z c.loop-block.reached.value
    c.loop-block.reached.rest) (drop_more c.as_slice-blocks.result.now c.loop-block.block-index no_block
    c.loop-block-test.true) c.loop-block.invariant in
    let far : (get_or c.as_slice-blocks.result.now c.loop-block.block-index no_block).width <ℤ c.loop-block.reached.rest
    = search rules in
    let next = IsReached-past (curve_value c.args.c.now (to_z w64 (of_z w64 c.args.x)))
    (get_or c.as_slice-blocks.result.now c.loop-block.block-index no_block)
    (drop (c.loop-block.block-index + 1) c.as_slice-blocks.result.now) c.loop-block.reached.value
    c.loop-block.reached.rest known far in
    subst (λ z. IsReached (curve_value c.args.c.now (to_z w64 (of_z w64 c.args.x)))
    (drop (c.loop-block.block-index + 1) c.as_slice-blocks.result.now) z c.after_block-reached.result.rest)
    (sym c.after_block-reached.ensures.value)
    (subst (λ z. IsReached (curve_value c.args.c.now (to_z w64 (of_z w64 c.args.x)))
    (drop (c.loop-block.block-index + 1) c.as_slice-blocks.result.now)
    (c.loop-block.reached.value +ℤ ((get_or c.as_slice-blocks.result.now c.loop-block.block-index no_block).price *ℤ
    (get_or c.as_slice-blocks.result.now c.loop-block.block-index no_block).width)) z)
    (sym c.after_block-reached.ensures.rest) next)
