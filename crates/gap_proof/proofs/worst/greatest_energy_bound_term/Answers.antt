use Rattle.gap_proof.proofs.Common.{rules, ◌≡◌, ℕ, suc, ◌+◌, ◌-◌, ℤ, pos, ◌+ℤ◌, ◌-ℤ◌, unsigned_abs, ap, sym, subst}
use Rattle.gap_proof.proofs.Common.{◌∙◌, FitsSigned, arith, ints, to_z-of_z, w64, w128, market_of, greatest, added}
use Rattle.std.specs.Prelude.{◌/◌}
use Rattle.gap_proof.proofs.Concave.{IsBetweenPlaces, all_between, between_above, between_below, between_one}
use Rattle.gap_proof.proofs.Concave.{added_concave, rising_from, falling_from}
use Rattle.gap_proof.proofs.worst.greatest_energy_bound_term.Goals as goal

pub loop-first-init : goal.loop-first-init
loop-first-init c =
    let low : FitsSigned w64 c.args.prices.low = search rules in
    let high : FitsSigned w64 c.args.prices.high = search rules in
    let far = simp to_z-of_z at c.abs_diff-last.ensures in
    let f : ℕ → ℤ = λ i. added (market_of c.args.case.now) c.args.lack.weight c.args.lack.power c.args.lack.index
    (c.args.prices.low +ℤ pos i) in
    let n = unsigned_abs (c.args.prices.high -ℤ c.args.prices.low) in
    subst (λ (j : ℕ). IsBetweenPlaces f n 0 j) (sym far) (all_between f n)

pub loop-first-preserved-then-is_energy_bound_term_rising : goal.loop-first-preserved-then-is_energy_bound_term_rising
loop-first-preserved-then-is_energy_bound_term_rising c =
    let m = market_of c.args.case.now in
    let g : ℤ → ℤ = added m c.args.lack.weight c.args.lack.power c.args.lack.index in
    let f : ℕ → ℤ = λ i. g (c.args.prices.low +ℤ pos i) in
    let n = unsigned_abs (c.args.prices.high -ℤ c.args.prices.low) in
    let middle = c.loop-first.first + (c.loop-first.last - c.loop-first.first) / 2 in
    let test = c.loop-first-test.true in
    let low = c.requires.weight.at_least in
    let concave = added_concave m c.args.lack.weight c.args.lack.power c.args.lack.index c.args.prices.low
    c.args.case.now.valid c.requires.index low in
    let p : FitsSigned w64 c.price_above_interval_start.result = search rules in
    let price = c.price_above_interval_start.ensures in
    let is = simp to_z-of_z at c.is_energy_bound_term_rising.ensures in
    let up = rising_from c.is_energy_bound_term_rising.result (g c.price_above_interval_start.result)
    (g (c.price_above_interval_start.result +ℤ pos 1)) is
    c.if-is_energy_bound_term_rising.true in
    let here = ap g price in
    let next : c.args.prices.low +ℤ pos (suc middle) ≡ c.price_above_interval_start.result +ℤ pos 1 = omega
    (arith, ints, price) in
    let there = ap g next in
    between_above f n c.loop-first.first c.loop-first.last middle concave c.loop-first.invariant (omega (arith, test))
    (omega (arith, ints, here, there, up))

pub loop-first-preserved : goal.loop-first-preserved
loop-first-preserved c =
    let m = market_of c.args.case.now in
    let g : ℤ → ℤ = added m c.args.lack.weight c.args.lack.power c.args.lack.index in
    let f : ℕ → ℤ = λ i. g (c.args.prices.low +ℤ pos i) in
    let n = unsigned_abs (c.args.prices.high -ℤ c.args.prices.low) in
    let middle = c.loop-first.first + (c.loop-first.last - c.loop-first.first) / 2 in
    let test = c.loop-first-test.true in
    let low = c.requires.weight.at_least in
    let concave = added_concave m c.args.lack.weight c.args.lack.power c.args.lack.index c.args.prices.low
    c.args.case.now.valid c.requires.index low in
    let p : FitsSigned w64 c.price_above_interval_start.result = search rules in
    let price = c.price_above_interval_start.ensures in
    let is = simp to_z-of_z at c.is_energy_bound_term_rising.ensures in
    let down = falling_from c.is_energy_bound_term_rising.result (g c.price_above_interval_start.result)
    (g (c.price_above_interval_start.result +ℤ pos 1)) is
    c.if-is_energy_bound_term_rising.false in
    let here = ap g price in
    let next : c.args.prices.low +ℤ pos (suc middle) ≡ c.price_above_interval_start.result +ℤ pos 1 = omega
    (arith, ints, price) in
    let there = ap g next in
    between_below f n c.loop-first.first c.loop-first.last middle concave c.loop-first.invariant (omega arith)
    (omega (arith, test)) (omega (arith, ints, here, there, down))

pub returns-clause-value : goal.returns-clause-value
returns-clause-value c =
    let m = market_of c.args.case.now in
    let g : ℤ → ℤ = added m c.args.lack.weight c.args.lack.power c.args.lack.index in
    let f : ℕ → ℤ = λ i. g (c.args.prices.low +ℤ pos i) in
    let n = unsigned_abs (c.args.prices.high -ℤ c.args.prices.low) in
    let test = c.loop-first-test.false in
    let p : FitsSigned w64 c.price_above_interval_start-2.result = search rules in
    let d : FitsSigned w128 c.energy_bound_term_at.result = search rules in
    let price = c.price_above_interval_start-2.ensures in
    let value = simp to_z-of_z at c.energy_bound_term_at.ensures.value in
    let sum : c.energy_bound_term_at.result ≡ greatest n f =
    value ∙ ap g price ∙ between_one f n c.loop-first.first c.loop-first.last c.loop-first.invariant test in
    simp to_z-of_z sum

-- (found at once by this search alone, and slowly by all that is tried without an answer)
pub overflow_sub-middle : goal.overflow_sub-middle
overflow_sub-middle c = search rules

pub overflow_add-middle : goal.overflow_add-middle
overflow_add-middle c = search rules

pub price_above_interval_start-requires-clause-more : goal.price_above_interval_start-requires-clause-more
price_above_interval_start-requires-clause-more c = search rules

pub overflow_add-first : goal.overflow_add-first
overflow_add-first c = search rules

pub loop-first-smaller-then-is_energy_bound_term_rising : goal.loop-first-smaller-then-is_energy_bound_term_rising
loop-first-smaller-then-is_energy_bound_term_rising c = search rules

pub loop-first-smaller : goal.loop-first-smaller
loop-first-smaller c = search rules

pub price_above_interval_start-requires-2-clause-more : goal.price_above_interval_start-requires-2-clause-more
price_above_interval_start-requires-2-clause-more c = search rules

pub energy_bound_term_at-requires-clause-price : goal.energy_bound_term_at-requires-clause-price
energy_bound_term_at-requires-clause-price c = search rules

pub returns-clause-limit : goal.returns-clause-limit
returns-clause-limit c = search rules
