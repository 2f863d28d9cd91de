use Rattle.gap_proof.proofs.Common.{rules, ◌≡◌, ℕ, ◌+◌, ℤ, pos, ◌+ℤ◌, ◌*ℤ◌, FitsSigned, ap, sym, subst, ◌∙◌, add-one}
use Rattle.gap_proof.proofs.Common.{arith, ints, to_z-of_z, get_or_from_slice_get, w64, w128, cast_signed, int_max}
use Rattle.gap_proof.proofs.Common.{market_of, prices_of, int_at, sum_below, low_end, high_end, IsSlopeSum}
use Rattle.gap_proof.proofs.Lemmas.{sum_step}
use Rattle.gap_proof.proofs.plane_sums.sum_of_greatest_slope_terms.Goals as goal

pub greatest_slope_term_in_interval-total-requires-clause-slope :
    goal.greatest_slope_term_in_interval-total-requires-clause-slope
greatest_slope_term_in_interval-total-requires-clause-slope c =
    let f : FitsSigned w128 c.get.result.now = search rules in
    let test = c.loop-index-test.true in
    let wide = c.requires.length in
    let size = subst IsSlopeSum c.get.ensures.value
    (c.requires.slopes c.loop-index.index c.get.result.now (omega (arith, test, wide))) in
    simp to_z-of_z size

pub loop-index-preserved : goal.loop-index-preserved
loop-index-preserved c =
    let m = market_of c.args.case.now in
    let π = prices_of c.args.centre.now in
    let q = c.args.radius in
    let k = c.loop-index.index in
    let xs = c.args.slopes.now.items in
    let f : ℕ → ℤ = λ j. int_max (int_at xs j *ℤ low_end m π q j) (int_at xs j *ℤ high_end m π q j) in
    let rq = c.ranges.radius in
    let g : FitsSigned w128 c.get.result.now = search rules in
    let h : FitsSigned w64 c.low_end_of_price-low.result = search rules in
    let i : FitsSigned w64 c.high_end_of_price-high.result = search rules in
    let t : FitsSigned w128 c.greatest_slope_term_in_interval-total.result = search rules in
    let so_far : cast_signed w128 c.loop-index.total-bits ≡ sum_below k f =
    simp to_z-of_z at c.loop-index.invariant.so_far in
    let low = simp to_z-of_z at c.low_end_of_price-low.ensures.value in
    let high = simp to_z-of_z at c.high_end_of_price-high.ensures.value in
    let value = simp to_z-of_z at c.greatest_slope_term_in_interval-total.ensures.value in
    let item = get_or_from_slice_get xs k c.get.result.now (pos 0) c.get.ensures.item in
    let term : c.greatest_slope_term_in_interval-total.result ≡ f k =
    value ∙ ap (λ (z : ℤ). int_max (z *ℤ c.low_end_of_price-low.result) (z *ℤ c.high_end_of_price-high.result))
    (sym item)
    ∙ ap (λ (z : ℤ). int_max (int_at xs k *ℤ z) (int_at xs k *ℤ c.high_end_of_price-high.result)) low
    ∙ ap (λ (z : ℤ). int_max (int_at xs k *ℤ low_end m π q k) (int_at xs k *ℤ z)) high in
    let few = c.args.case.now.valid.horizon.at_most in
    let test = c.loop-index-test.true in
    let step = sum_step 10000000000000000000000000000000 k 336 (cast_signed w128 c.loop-index.total-bits)
    c.greatest_slope_term_in_interval-total.result c.loop-index.invariant.bound
    c.greatest_slope_term_in_interval-total.ensures.bound
    (omega (arith, few, test)) (omega arith) in
    let fits = step.fits in
    let more : sum_below (k + 1) f ≡ sum_below k f +ℤ f k = ap (λ (n : ℕ). sum_below n f) (add-one k) in
    let sum : cast_signed w128 c.loop-index.total-bits +ℤ c.greatest_slope_term_in_interval-total.result ≡ sum_below
    (k + 1) f =
    omega (arith, ints, more, so_far, term) in
    record { so_far = simp to_z-of_z sum; bound = simp to_z-of_z step.within }
