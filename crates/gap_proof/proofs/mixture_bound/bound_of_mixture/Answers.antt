use Rattle.gap_proof.proofs.Common.{rules, ◌≡◌, ℕ, ◌+◌, ◌*◌, ℤ, ◌+ℤ◌, unsigned_abs, ap, ◌∙◌, FitsSigned, arith}
use Rattle.gap_proof.proofs.Common.{ints, to_z-of_z, w64, w128, IsWithin, fits_within, sum_below, floor_div}
use Rattle.gap_proof.proofs.Common.{market_of, prices_of, mixture_cost, most_energy, most_reserve, mixture_bound}
use Rattle.gap_proof.proofs.Common.{PriceLists, Market, MixtureLists}
use Rattle.std.specs.Int.{cast_signed}
use Rattle.std.proofs.Common.{add-one}
use Rattle.gap_proof.specs.Mixtures.{mixture_of}
use Rattle.gap_proof.proofs.mixture_bound.bound_of_mixture.Goals as goal

-- the sum over all periods, for one of the whole, is the bound
bound_is : (m : Market) (x : MixtureLists) (π : PriceLists) (radius : ℤ) (n : ℕ) → n ≡ m.periods →
    floor_div (mixture_cost m x +ℤ sum_below n (λ k. most_energy m x π radius k +ℤ most_reserve m x π radius k))
    (unsigned_abs x.whole) ≡ mixture_bound m x π radius
unfolding mixture_bound
bound_is m x π radius n e =
    ap (λ (t : ℕ). floor_div (mixture_cost m x +ℤ sum_below t
    (λ k. most_energy m x π radius k +ℤ most_reserve m x π radius k)) (unsigned_abs x.whole)) e

pub loop-index-init : goal.loop-index-init
loop-index-init c =
    let m = market_of c.args.case.now in
    let x = mixture_of c.args.mixture.now in
    let π = prices_of c.args.centre.now in
    let q = c.args.radius in
    let f : FitsSigned w128 c.cost_of_mixture-sum.result = search rules in
    let term : ℕ → ℤ = λ j. most_energy m x π q j +ℤ most_reserve m x π q j in
    let value = c.cost_of_mixture-sum.ensures.value in
    let a = c.cost_of_mixture-sum.ensures.limit.at_least in
    let b = c.cost_of_mixture-sum.ensures.limit.at_most in
    let sum : c.cost_of_mixture-sum.result ≡ mixture_cost m x +ℤ sum_below 0 term = omega (arith, ints, value) in
    let limit : IsWithin (7000000000000000000000000000000000 + 500000000000000000000000000000000 * 0)
    c.cost_of_mixture-sum.result =
    record { at_least = omega (arith, ints, a); at_most = omega (arith, ints, b) } in
    record { is = simp to_z-of_z sum; limit = simp to_z-of_z limit }

pub overflow_add-sum : goal.overflow_add-sum
overflow_add-sum c =
    let few = c.args.case.now.valid.horizon.at_most in
    let test = c.loop-index-test.true in
    let f : FitsSigned w128 c.greatest_bound_term_of_period-sum.result = search rules in
    let a = c.loop-index.invariant.limit.at_least in
    let b = c.loop-index.invariant.limit.at_most in
    let u = c.greatest_bound_term_of_period-sum.ensures.limit.at_least in
    let v = c.greatest_bound_term_of_period-sum.ensures.limit.at_most in
    let within : IsWithin 100000000000000000000000000000000000
    (cast_signed w128 c.loop-index.sum-bits +ℤ c.greatest_bound_term_of_period-sum.result) =
    record {
      at_least = omega (arith, ints, a, u, few, test);
      at_most =
          omega (arith, ints, b, v, few, test);
    } in
    let fits = fits_within w128 100000000000000000000000000000000000
    (cast_signed w128 c.loop-index.sum-bits +ℤ c.greatest_bound_term_of_period-sum.result) within (omega arith) in
    simp to_z-of_z fits

pub loop-index-preserved : goal.loop-index-preserved
loop-index-preserved c =
    let m = market_of c.args.case.now in
    let x = mixture_of c.args.mixture.now in
    let π = prices_of c.args.centre.now in
    let q = c.args.radius in
    let k = c.loop-index.index in
    let rq = c.ranges.radius in
    let few = c.args.case.now.valid.horizon.at_most in
    let test = c.loop-index-test.true in
    let f : FitsSigned w128 c.greatest_bound_term_of_period-sum.result = search rules in
    let term : ℕ → ℤ = λ j. most_energy m x π q j +ℤ most_reserve m x π q j in
    let so_far : cast_signed w128 c.loop-index.sum-bits ≡ mixture_cost m x +ℤ sum_below k term =
    simp to_z-of_z at c.loop-index.invariant.is in
    let value = simp to_z-of_z at c.greatest_bound_term_of_period-sum.ensures.value in
    let more : sum_below (k + 1) term ≡ sum_below k term +ℤ term k = ap (λ (n : ℕ). sum_below n term) (add-one k) in
    let a = c.loop-index.invariant.limit.at_least in
    let b = c.loop-index.invariant.limit.at_most in
    let u = c.greatest_bound_term_of_period-sum.ensures.limit.at_least in
    let v = c.greatest_bound_term_of_period-sum.ensures.limit.at_most in
    let sum : cast_signed w128 c.loop-index.sum-bits +ℤ c.greatest_bound_term_of_period-sum.result ≡ mixture_cost m x
    +ℤ sum_below (k + 1)
    term = omega (arith, ints, so_far, value, more) in
    let limit : IsWithin (7000000000000000000000000000000000 + 500000000000000000000000000000000 * (k + 1))
    (cast_signed w128 c.loop-index.sum-bits +ℤ c.greatest_bound_term_of_period-sum.result) =
    record { at_least = omega (arith, ints, a, u); at_most = omega (arith, ints, b, v) } in
    let l = limit.at_least in
    let h = limit.at_most in
    let within : IsWithin 100000000000000000000000000000000000
    (cast_signed w128 c.loop-index.sum-bits +ℤ c.greatest_bound_term_of_period-sum.result) =
    record { at_least = omega (arith, ints, l, few, test); at_most = omega (arith, ints, h, few, test) } in
    let fits = fits_within w128 100000000000000000000000000000000000
    (cast_signed w128 c.loop-index.sum-bits +ℤ c.greatest_bound_term_of_period-sum.result) within (omega arith) in
    record { is = simp to_z-of_z sum; limit = simp to_z-of_z limit }

pub returns-clause-limit : goal.returns-clause-limit
returns-clause-limit c =
    let few = c.args.case.now.valid.horizon.at_most in
    let end = c.loop-index.auto.index-end in
    let a = c.loop-index.invariant.limit.at_least in
    let b = c.loop-index.invariant.limit.at_most in
    let within : IsWithin 100000000000000000000000000000000000 (cast_signed w128 c.loop-index.sum-bits) =
    record { at_least = omega (arith, ints, a, few, end); at_most = omega (arith, ints, b, few, end) } in
    let f : FitsSigned w128 c.floor_quotient.result = search rules in
    simp to_z-of_z (c.floor_quotient.ensures.limit 100000000000000000000000000000000000 within)

pub returns-clause-bound : goal.returns-clause-bound
returns-clause-bound c =
    let m = market_of c.args.case.now in
    let x = mixture_of c.args.mixture.now in
    let π = prices_of c.args.centre.now in
    let q = c.args.radius in
    let rq = c.ranges.radius in
    let k = c.loop-index.index in
    let f : FitsSigned w128 c.floor_quotient.result = search rules in
    let qw : FitsSigned w64 c.args.mixture.now.weight = search rules in
    let term : ℕ → ℤ = λ j. most_energy m x π q j +ℤ most_reserve m x π q j in
    let so_far : cast_signed w128 c.loop-index.sum-bits ≡ mixture_cost m x +ℤ sum_below k term =
    simp to_z-of_z at c.loop-index.invariant.is in
    let value = simp to_z-of_z at c.floor_quotient.ensures.value in
    let test = c.loop-index-test.false in
    let end = c.loop-index.auto.index-end in
    let all : k ≡ m.periods = omega (arith, test, end) in
    let bound : c.floor_quotient.result ≡ mixture_bound m x π q =
    value ∙ ap (λ (z : ℤ). floor_div z (unsigned_abs x.whole)) so_far ∙ bound_is m x π q k all in
    simp to_z-of_z bound
