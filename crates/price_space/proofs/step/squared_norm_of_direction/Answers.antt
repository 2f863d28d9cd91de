use Rattle.price_space.proofs.Common.{rules, ◌≡◌, ℕ, ◌+◌, ◌*◌, ℤ, pos, ◌+ℤ◌, ◌*ℤ◌, FitsSigned, ap, ◌∙◌, add-one, arith}
use Rattle.price_space.proofs.Common.{ints, to_z-of_z, w64, w128, cast_signed, IsFrom, market_of, proposal_of}
use Rattle.price_space.proofs.Common.{direction_at, sum_below, fits_within, IsWithin}
use Rattle.price_space.proofs.step.squared_norm_of_direction.Goals as goal

pub loop-place-preserved : goal.loop-place-preserved
loop-place-preserved c =
    let k = c.loop-place.place in
    let d : ℕ → ℤ = λ p. direction_at (market_of c.args.case.now) (proposal_of c.args.row.now) p in
    let f : ℕ → ℤ = λ p. d p *ℤ d p in
    let total : ℤ = cast_signed w128 c.loop-place.total-bits in
    let more : sum_below (k + 1) f ≡ sum_below k f +ℤ f k = ap (λ (n : ℕ). sum_below n f) (add-one k) in
    let so_far : cast_signed w128 c.loop-place.total-bits ≡ sum_below k f = c.loop-place.invariant.so_far in
    let low : IsFrom (pos 0) (pos (k * 400000000000000000000000000)) (cast_signed w128 c.loop-place.total-bits) =
    c.loop-place.invariant.bound in
    let sq : FitsSigned w128 c.square_of-total.result = search rules in
    let dr : FitsSigned w64 c.direction.result = search rules in
    let is : c.square_of-total.result ≡ c.direction.result *ℤ c.direction.result =
    simp to_z-of_z at c.square_of-total.ensures.value in
    let term : c.square_of-total.result ≡ f k = is ∙ ap (λ (z : ℤ). z *ℤ z) c.direction.ensures.value in
    let a = low.at_least in
    let b = low.at_most in
    let g = c.square_of-total.ensures.bound.at_least in
    let h = c.square_of-total.ensures.bound.at_most in
    let bound : IsFrom (pos 0) (pos ((k + 1) * 400000000000000000000000000))
    (cast_signed w128 c.loop-place.total-bits +ℤ c.square_of-total.result) =
    record { at_least = omega (arith, ints, a, g); at_most = omega (arith, ints, b, h) } in
    let few = c.args.case.now.valid.horizon.at_most in
    let turn = c.loop-place-test.true in
    let top = bound.at_most in
    let base = bound.at_least in
    let within : IsWithin 134400000000000000000000000000
    (cast_signed w128 c.loop-place.total-bits +ℤ c.square_of-total.result) =
    record { at_least = omega (arith, ints, base); at_most = omega (arith, ints, top, few, turn) } in
    let fits = fits_within w128 134400000000000000000000000000
    (cast_signed w128 c.loop-place.total-bits +ℤ c.square_of-total.result) within (omega arith) in
    let sum : cast_signed w128 c.loop-place.total-bits +ℤ c.square_of-total.result ≡ sum_below (k + 1) f =
    omega (arith, ints, more, so_far, term) in
    record { so_far = simp to_z-of_z sum; bound = simp to_z-of_z bound }
