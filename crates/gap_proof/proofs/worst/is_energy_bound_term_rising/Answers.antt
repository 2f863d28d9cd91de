use Rattle.gap_proof.proofs.Common.{rules, ◌≡◌, true, ℤ, pos, ◌+ℤ◌, ◌<ℤ◌, int_lt, FitsSigned, arith, ints}
use Rattle.gap_proof.proofs.Common.{to_z-of_z, w64, w128, IsWithin, fits_within}
use Rattle.std.specs.Prelude.{IsTrue, ◌↔◌}
use Rattle.gap_proof.proofs.worst.is_energy_bound_term_rising.Goals as goal

is_less : (a b : ℤ) → a <ℤ b → int_lt a b ≡ true
is_less a b h = grind (arith, ints)

less_from : (a b : ℤ) → int_lt a b ≡ true → a <ℤ b
less_from a b h = grind (arith, ints)

-- a test of two numbers that are x and y
less_test : (a b x y : ℤ) → a ≡ x → b ≡ y → (IsTrue (int_lt a b) ↔ (x <ℤ y))
less_test a b x y e f = (
  λ on. let h = less_from a b on in omega (arith, ints, e, f, h),
  λ less. is_less a b (omega (arith, ints, e, f, less)),
)

pub returns : goal.returns
returns c =
    let q = c.ranges.price in
    let a : FitsSigned w128 c.energy_bound_term_at.result = search rules in
    let b : FitsSigned w128 c.energy_bound_term_at-2.result = search rules in
    let low = c.requires.low in
    let high = c.requires.high in
    let within : IsWithin 10000000 (c.args.price +ℤ pos 1) =
    record { at_least = omega (arith, ints, low); at_most = omega (arith, ints, high) } in
    let fits = fits_within w64 10000000 (c.args.price +ℤ pos 1) within (omega arith) in
    let e = simp to_z-of_z at c.energy_bound_term_at.ensures.value in
    let f = simp to_z-of_z at c.energy_bound_term_at-2.ensures.value in
    simp to_z-of_z (less_test c.energy_bound_term_at.result c.energy_bound_term_at-2.result _ _ e f)

-- (found at once by this search alone, and slowly by all that is tried without an answer)
pub energy_bound_term_at-requires-clause-price : goal.energy_bound_term_at-requires-clause-price
energy_bound_term_at-requires-clause-price c = search rules

pub overflow_add-price : goal.overflow_add-price
overflow_add-price c = search rules

pub energy_bound_term_at-requires-2-clause-price : goal.energy_bound_term_at-requires-2-clause-price
energy_bound_term_at-requires-2-clause-price c = search rules
