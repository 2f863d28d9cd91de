use Rattle.gap_proof.proofs.Common.{rules, ◌≡◌, ℕ, ◌+◌, ℤ, pos, ◌+ℤ◌, ◌-ℤ◌, ◌*ℤ◌, ap, ◌∙◌, unsigned_abs, FitsSigned}
use Rattle.gap_proof.proofs.Common.{arith, ints, to_z-of_z, int_max, w64, w128, IsFrom, IsWithin, fits_within}
use Rattle.gap_proof.proofs.Common.{PriceLists, Market, MixtureLists, market_of, prices_of, low_end, high_end}
use Rattle.gap_proof.proofs.Common.{greatest, added, lack, short, most_energy, most_reserve}
use Rattle.gap_proof.specs.Mixtures.{mixture_of}
use Rattle.gap_proof.proofs.mixture_bound.greatest_bound_term_of_period.Goals as goal

-- the most that prices of an interval add, where the ends and what is lacking are known
energy_is : (m : Market) (x : MixtureLists) (π : PriceLists) (radius : ℤ) (k : ℕ) (low high lacking : ℤ) →
    low ≡ low_end m π radius k → high ≡ high_end m π radius k → lacking ≡ lack m x k →
    greatest (unsigned_abs (high -ℤ low)) (λ i. added m x.whole lacking k (low +ℤ pos i)) ≡ most_energy m x π radius k
energy_is m x π radius k low high lacking e f g =
    ap (λ (z : ℤ). greatest (unsigned_abs (z -ℤ low)) (λ i. added m x.whole lacking k (low +ℤ pos i))) f
    ∙ ap (λ (z : ℤ). greatest (unsigned_abs (high_end m π radius k -ℤ z)) (λ i. added m x.whole lacking k (z +ℤ pos i)))
    e
    ∙ ap (λ (z : ℤ). greatest (unsigned_abs (high_end m π radius k -ℤ low_end m π radius k))
    (λ i. added m x.whole z k (low_end m π radius k +ℤ pos i))) g

reserve_is : (m : Market) (x : MixtureLists) (π : PriceLists) (radius : ℤ) (k : ℕ) (low high lacking : ℤ) →
    low ≡ low_end m π radius (m.periods + k) → high ≡ high_end m π radius (m.periods + k) → lacking ≡ short m x k →
    int_max (lacking *ℤ low) (lacking *ℤ high) ≡ most_reserve m x π radius k
reserve_is m x π radius k low high lacking e f g =
    ap (λ (z : ℤ). int_max (lacking *ℤ low) (lacking *ℤ z)) f
    ∙ ap (λ (z : ℤ). int_max (lacking *ℤ z) (lacking *ℤ high_end m π radius (m.periods + k))) e
    ∙ ap (λ (z : ℤ). int_max (z *ℤ low_end m π radius (m.periods + k)) (z *ℤ high_end m π radius (m.periods + k))) g

pub greatest_energy_bound_term-requires-clause-weight : goal.greatest_energy_bound_term-requires-clause-weight
greatest_energy_bound_term-requires-clause-weight c =
    let qw : FitsSigned w64 c.args.mixture.now.weight = search rules in
    let a = c.requires.shape.whole.at_least in
    let weight : IsFrom (pos 0) (pos 1000000000000) c.args.mixture.now.weight =
    record { at_least = omega (arith, ints, a); at_most = c.requires.shape.whole.at_most } in
    simp to_z-of_z weight

pub returns-clause-value : goal.returns-clause-value
returns-clause-value c =
    let m = market_of c.args.case.now in
    let x = mixture_of c.args.mixture.now in
    let π = prices_of c.args.centre.now in
    let q = c.args.radius in
    let k = c.args.index in
    let rq = c.ranges.radius in
    let lacks = c.shortfalls_of_mixture_at-lacks.result in
    let e = c.price_interval-energy.result in
    let r = c.price_interval-reserve.result in
    let qw : FitsSigned w64 c.args.mixture.now.weight = search rules in
    let fp : FitsSigned w128 c.shortfalls_of_mixture_at-lacks.result.power = search rules in
    let fr : FitsSigned w128 c.shortfalls_of_mixture_at-lacks.result.reserve = search rules in
    let el : FitsSigned w64 c.price_interval-energy.result.low = search rules in
    let eh : FitsSigned w64 c.price_interval-energy.result.high = search rules in
    let rl : FitsSigned w64 c.price_interval-reserve.result.low = search rules in
    let rh : FitsSigned w64 c.price_interval-reserve.result.high = search rules in
    let f : FitsSigned w128 c.greatest_energy_bound_term.result = search rules in
    let g : FitsSigned w128 c.greatest_reserve_bound_term.result = search rules in
    let a = c.greatest_energy_bound_term.ensures.limit.at_least in
    let b = c.greatest_energy_bound_term.ensures.limit.at_most in
    let u = c.greatest_reserve_bound_term.ensures.limit.at_least in
    let v = c.greatest_reserve_bound_term.ensures.limit.at_most in
    let within : IsWithin 500000000000000000000000000000000
    (c.greatest_energy_bound_term.result +ℤ c.greatest_reserve_bound_term.result) =
    record { at_least = omega (arith, ints, a, u); at_most = omega (arith, ints, b, v) } in
    let fits = fits_within w128 500000000000000000000000000000000
    (c.greatest_energy_bound_term.result +ℤ c.greatest_reserve_bound_term.result) within
    (omega arith) in
    let energy = simp to_z-of_z at c.greatest_energy_bound_term.ensures.value in
    let reserve = simp to_z-of_z at c.greatest_reserve_bound_term.ensures.value in
    let energy_low = simp to_z-of_z at c.price_interval-energy.ensures.low in
    let energy_high = simp to_z-of_z at c.price_interval-energy.ensures.high in
    let reserve_low = simp to_z-of_z at c.price_interval-reserve.ensures.low in
    let reserve_high = simp to_z-of_z at c.price_interval-reserve.ensures.high in
    let power = c.shortfalls_of_mixture_at-lacks.ensures.power in
    let spare = c.shortfalls_of_mixture_at-lacks.ensures.reserve in
    let one : c.greatest_energy_bound_term.result ≡ most_energy m x π q k =
    energy ∙ energy_is m x π q k e.low e.high lacks.power energy_low energy_high power in
    let two : c.greatest_reserve_bound_term.result ≡ most_reserve m x π q k =
    reserve ∙ reserve_is m x π q k r.low r.high lacks.reserve reserve_low reserve_high spare in
    let sum : c.greatest_energy_bound_term.result +ℤ c.greatest_reserve_bound_term.result ≡ most_energy m x π q k +ℤ
    most_reserve m x π
    q k =
    omega (arith, ints, one, two) in
    simp to_z-of_z sum

pub returns-clause-limit : goal.returns-clause-limit
returns-clause-limit c =
    let f : FitsSigned w128 c.greatest_energy_bound_term.result = search rules in
    let g : FitsSigned w128 c.greatest_reserve_bound_term.result = search rules in
    let a = c.greatest_energy_bound_term.ensures.limit.at_least in
    let b = c.greatest_energy_bound_term.ensures.limit.at_most in
    let x = c.greatest_reserve_bound_term.ensures.limit.at_least in
    let y = c.greatest_reserve_bound_term.ensures.limit.at_most in
    let within : IsWithin 500000000000000000000000000000000
    (c.greatest_energy_bound_term.result +ℤ c.greatest_reserve_bound_term.result) =
    record { at_least = omega (arith, ints, a, x); at_most = omega (arith, ints, b, y) } in
    let fits = fits_within w128 500000000000000000000000000000000
    (c.greatest_energy_bound_term.result +ℤ c.greatest_reserve_bound_term.result) within
    (omega arith) in
    simp to_z-of_z within

-- (found at once by this search alone, and slowly by all that is tried without an answer)
pub overflow_add-case : goal.overflow_add-case
overflow_add-case c = search rules

pub greatest_energy_bound_term-requires-clause-low : goal.greatest_energy_bound_term-requires-clause-low
greatest_energy_bound_term-requires-clause-low c = search rules

pub greatest_energy_bound_term-requires-clause-ordered : goal.greatest_energy_bound_term-requires-clause-ordered
greatest_energy_bound_term-requires-clause-ordered c = search rules

pub greatest_energy_bound_term-requires-clause-high : goal.greatest_energy_bound_term-requires-clause-high
greatest_energy_bound_term-requires-clause-high c = search rules

pub greatest_reserve_bound_term-requires-clause-low : goal.greatest_reserve_bound_term-requires-clause-low
greatest_reserve_bound_term-requires-clause-low c = search rules

pub greatest_reserve_bound_term-requires-clause-high : goal.greatest_reserve_bound_term-requires-clause-high
greatest_reserve_bound_term-requires-clause-high c = search rules

pub overflow_add-result : goal.overflow_add-result
overflow_add-result c = search rules
