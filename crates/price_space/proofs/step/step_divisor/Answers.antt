use Rattle.price_space.proofs.Common.{rules, ◌≡◌, ◌*◌, pos, ◌*ℤ◌, FitsSigned, arith, ints, to_z-of_z, w128, IsFrom}
use Rattle.price_space.proofs.Common.{mul-mono_of, product_within, fits_within, IsWithin}
use Rattle.price_space.proofs.step.step_divisor.Goals as goal

pub returns-clause-bound : goal.returns-clause-bound
returns-clause-bound c =
    let low = c.requires.at_least in
    let high = c.requires.at_most in
    let few = c.step_halving_factor.ensures.low in
    let many = c.step_halving_factor.ensures.high in
    let f = c.ranges.norm in
    let g : FitsSigned w128 c.from.result = search rules in
    let is : c.from.result ≡ pos c.step_halving_factor.result = c.from.ensures in
    let norm : IsWithin 134400000000000000000000000000 c.args.norm =
    record { at_least = omega (arith, ints, low); at_most = high } in
    let times : IsFrom (pos 0) (pos 1048576) c.from.result =
    record { at_least = omega (arith, ints, is); at_most = omega (arith, ints, is, many) } in
    let within = product_within 134400000000000000000000000000 1048576 c.args.norm c.from.result norm times in
    let fits = fits_within w128 (134400000000000000000000000000 * 1048576) (c.args.norm *ℤ c.from.result) within
    (omega arith) in
    let most = within.at_most in
    let rise = mul-mono_of c.args.norm (pos 1) c.from.result (omega (arith, ints, low))
    (omega (arith, ints, is, few)) in
    let bound : IsFrom (pos 1) (pos 1000000000000000000000000000000000000) (c.args.norm *ℤ c.from.result) =
    record { at_least = omega (arith, ints, rise, low); at_most = omega (arith, ints, most) } in
    simp to_z-of_z bound

-- (found at once by this search alone, and slowly by all that is tried without an answer)
pub overflow_mul-result : goal.overflow_mul-result
overflow_mul-result c = search rules

pub returns-clause-value : goal.returns-clause-value
returns-clause-value c = search rules
