use Rattle.gap_proof.proofs.Common.{rules, ◌≡◌, ℕ, ◌+◌, ◌*◌, ℤ, ◌+ℤ◌, ◌-ℤ◌, ◌*ℤ◌, FitsSigned, ap, ◌∙◌, add-one, arith}
use Rattle.gap_proof.proofs.Common.{ints, to_z-of_z, w64, w128, cast_signed, market_of, proposal_of, sum_below}
use Rattle.gap_proof.proofs.Common.{fits_within, IsWithin, price_at, slope_at}
use Rattle.gap_proof.proofs.Lemmas.{sum_step}
use Rattle.gap_proof.proofs.planes.plane_height_at_zero_prices.Goals as goal

pub loop-index-preserved : goal.loop-index-preserved
loop-index-preserved c =
    let m = market_of c.args.case.now in
    let r = proposal_of c.args.row.now in
    let k = c.loop-index.index in
    let f : ℕ → ℤ = λ j. slope_at m r j *ℤ price_at m r.prices j in
    let so_far : cast_signed w128 c.loop-index.at_prices-bits ≡ sum_below k f = c.loop-index.invariant.so_far in
    let d : FitsSigned w64 c.slope_of_row.result = search rules in
    let p : FitsSigned w64 c.price_at_place.result = search rules in
    let g : FitsSigned w128 c.slope_times_price-at_prices.result = search rules in
    let value = simp to_z-of_z at c.slope_times_price-at_prices.ensures.value in
    let term : c.slope_times_price-at_prices.result ≡ f k =
    value ∙ ap (λ (z : ℤ). z *ℤ c.price_at_place.result) c.slope_of_row.ensures.value ∙
    ap (λ (z : ℤ). slope_at m r k *ℤ z) c.price_at_place.ensures.value in
    let few = c.args.case.now.valid.horizon.at_most in
    let test = c.loop-index-test.true in
    let step = sum_step 200000000000000000000 k 336 (cast_signed w128 c.loop-index.at_prices-bits)
    c.slope_times_price-at_prices.result c.loop-index.invariant.bound c.slope_times_price-at_prices.ensures.bound
    (omega (arith, few, test)) (omega arith) in
    let fits = step.fits in
    let more : sum_below (k + 1) f ≡ sum_below k f +ℤ f k = ap (λ (n : ℕ). sum_below n f) (add-one k) in
    let sum : cast_signed w128 c.loop-index.at_prices-bits +ℤ c.slope_times_price-at_prices.result ≡ sum_below (k + 1)
    f =
    omega (arith, ints, more, so_far, term) in
    record { so_far = simp to_z-of_z sum; bound = simp to_z-of_z step.within }

pub returns : goal.returns
returns c =
    let m = market_of c.args.case.now in
    let r = proposal_of c.args.row.now in
    let f : ℕ → ℤ = λ j. slope_at m r j *ℤ price_at m r.prices j in
    let few = c.args.case.now.valid.horizon.at_most in
    let test = c.loop-index-test.false in
    let end = c.loop-index.auto.index-end in
    let low = c.loop-index.invariant.bound.at_least in
    let high = c.loop-index.invariant.bound.at_most in
    let worth = c.requires.value in
    let a = worth.at_least in
    let b = worth.at_most in
    let v : FitsSigned w128 c.args.row.now.value = search rules in
    let within : IsWithin 2000000000000000000000000
    (c.args.row.now.value -ℤ cast_signed w128 c.loop-index.at_prices-bits) =
    record { at_least = omega (arith, ints, a, high, few, end); at_most = omega (arith, ints, b, low, few, end) } in
    let fits = fits_within w128 2000000000000000000000000 _ within (omega arith) in
    let so_far : cast_signed w128 c.loop-index.at_prices-bits ≡ sum_below c.loop-index.index f =
    c.loop-index.invariant.so_far in
    let all_ : c.loop-index.index ≡ 2 * c.args.case.now.periods = omega (arith, test, end) in
    let whole : sum_below c.loop-index.index f ≡ sum_below (2 * c.args.case.now.periods) f =
    ap (λ (n : ℕ). sum_below n f) all_ in
    record {
      value = simp to_z-of_z (ap (λ (z : ℤ). c.args.row.now.value -ℤ z) (so_far ∙ whole));
      bound =
          simp to_z-of_z within;
    }
