use Rattle.price_space.proofs.Common.{rules, ◌≡◌, ℤ, ◌+ℤ◌, ◌*ℤ◌, int_div, FitsSigned, ap, ◌∙◌, arith, ints, to_z-of_z}
use Rattle.price_space.proofs.Common.{w64, w128, price_limit, market_of, proposal_of, int_at, clamped, fits_within}
use Rattle.price_space.proofs.Common.{IsWithin, low_of, prices_on, direction_on, price_after}
use Rattle.price_space.proofs.step.price_of_product_after_step.Goals as goal

pub returns : goal.returns
unfolding price_after
returns c =
    let m = market_of c.args.case.now in
    let r = proposal_of c.args.row.now in
    let a : FitsSigned w64 c.clamp_to_price_limit.result = search rules in
    let b : FitsSigned w64 c.least_price_of_product.result = search rules in
    let d : FitsSigned w64 c.price_of_product.result = search rules in
    let e : FitsSigned w64 c.direction_entry.result = search rules in
    let f : FitsSigned w128 c.from.result = search rules in
    let g : FitsSigned w128 c.price_move_of_direction_entry-by.result = search rules in
    let from_is : c.from.result ≡ c.price_of_product.result = simp to_z-of_z at c.from.ensures in
    let price = c.price_of_product.ensures.value in
    let low = c.price_of_product.ensures.bound.at_least in
    let high = c.price_of_product.ensures.bound.at_most in
    let least = c.price_move_of_direction_entry-by.ensures.bound.at_least in
    let most = c.price_move_of_direction_entry-by.ensures.bound.at_most in
    let by_is : c.price_move_of_direction_entry-by.result ≡ int_div (c.args.step.gap *ℤ c.direction_entry.result)
    c.args.step.scale =
    simp to_z-of_z at c.price_move_of_direction_entry-by.ensures.value in
    let within : IsWithin 40000000000000000000000000000010000000
    (c.from.result +ℤ c.price_move_of_direction_entry-by.result) =
    record {
      at_least = omega (arith, ints, from_is, low, least);
      at_most =
          omega (arith, ints, from_is, high, most);
    } in
    let fits = fits_within w128 40000000000000000000000000000010000000
    (c.from.result +ℤ c.price_move_of_direction_entry-by.result) within
    (omega arith) in
    let near : c.clamp_to_price_limit.result ≡ clamped c.least_price_of_product.result price_limit
    (c.from.result +ℤ c.price_move_of_direction_entry-by.result) =
    simp to_z-of_z at c.clamp_to_price_limit.ensures.value in
    let entry = ap (λ (z : ℤ). int_div (c.args.step.gap *ℤ z) c.args.step.scale) c.direction_entry.ensures.value in
    let sum : c.from.result +ℤ c.price_move_of_direction_entry-by.result ≡ int_at (prices_on c.args.product r) c.args.k
    +ℤ int_div
    (c.args.step.gap *ℤ direction_on m r c.args.product c.args.k) c.args.step.scale =
    ap (λ (z : ℤ). z +ℤ c.price_move_of_direction_entry-by.result) (from_is ∙ price) ∙
    ap (λ (z : ℤ). int_at (prices_on c.args.product r) c.args.k +ℤ z) (by_is ∙ entry) in
    simp to_z-of_z (near
    ∙ ap (λ (l : ℤ). clamped l price_limit (c.from.result +ℤ c.price_move_of_direction_entry-by.result))
    c.least_price_of_product.ensures.value
    ∙ ap (λ (z : ℤ). clamped (low_of c.args.product) price_limit z) sum)
