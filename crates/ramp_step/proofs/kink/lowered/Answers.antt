use Rattle.ramp_step.proofs.Common.{◌≡◌, ◌∙◌, arith, to_z, of_z, ◌+ℤ◌, ◌-ℤ◌, ◌*ℤ◌, FitsSigned, w64, int_min, ints}
use Rattle.ramp_step.proofs.Common.{to_z-of_z}
use Rattle.ramp_step.proofs.kink.lowered.Goals as goal
use Rattle.ramp_step.proofs.kink.lowered.Goals.{After-min-most}

-- the reserve at the knot
most : (c : After-min-most) → FitsSigned w64 c.min-most.result →
    to_z w64 (of_z w64 c.min-most.result) ≡ int_min c.args.cap (c.args.up +ℤ c.args.knot.at)
most c fits =
    let e-sum : to_z w64 (of_z w64 (to_z w64 (of_z w64 c.args.up) +ℤ to_z w64 (of_z w64 c.args.knot.at))) ≡ c.args.up
    +ℤ c.args.knot.at = omega (arith, ints) in
    to_z-of_z w64 _ fits ∙ rw (to_z-of_z w64 c.args.cap c.ranges.cap, e-sum) at c.min-most.ensures.value

pub overflow_mul-result : goal.overflow_mul-result
overflow_mul-result c =
    let mu = c.args.mu in
    let m = int_min c.args.cap (c.args.up +ℤ c.args.knot.at) in
    let most = most (goal.at.overflow_mul-result c).After-min-most (record { sfits = c.min-most.type_inv }) in
    let fits : FitsSigned w64 (mu *ℤ m) = omega (arith, ints) in
    rw (to_z-of_z w64 c.args.mu c.ranges.mu, most) fits

pub overflow_sub-result : goal.overflow_sub-result
overflow_sub-result c =
    let mu = c.args.mu in
    let m = int_min c.args.cap (c.args.up +ℤ c.args.knot.at) in
    let most = most (goal.at.overflow_sub-result c).After-min-most (record { sfits = c.min-most.type_inv }) in
    let fits : FitsSigned w64 (mu *ℤ m) = omega (arith, ints) in
    let e-product : to_z w64 (of_z w64 (mu *ℤ m)) ≡ mu *ℤ m = to_z-of_z w64 _ fits in
    let e-value : to_z w64 (of_z w64 c.args.knot.value) ≡ c.args.knot.value = omega (arith, ints) in
    let whole : FitsSigned w64 (c.args.knot.value -ℤ mu *ℤ m) = omega (arith, ints) in
    rw (to_z-of_z w64 c.args.mu c.ranges.mu, most, e-product, e-value) whole

pub returns-clause-value : goal.returns-clause-value
returns-clause-value c =
    let mu = c.args.mu in
    let m = int_min c.args.cap (c.args.up +ℤ c.args.knot.at) in
    let most = most (goal.at.returns-clause-value c).After-min-most (record { sfits = c.min-most.type_inv }) in
    let fits : FitsSigned w64 (mu *ℤ m) = omega (arith, ints) in
    let e-product : to_z w64 (of_z w64 (mu *ℤ m)) ≡ mu *ℤ m = to_z-of_z w64 _ fits in
    let e-value : to_z w64 (of_z w64 c.args.knot.value) ≡ c.args.knot.value = omega (arith, ints) in
    let whole : FitsSigned w64 (c.args.knot.value -ℤ mu *ℤ m) = omega (arith, ints) in
    let e-whole : to_z w64 (of_z w64 (c.args.knot.value -ℤ mu *ℤ m)) ≡ c.args.knot.value -ℤ mu *ℤ m =
    to_z-of_z w64 _ whole in
    rw (to_z-of_z w64 c.args.mu c.ranges.mu, most, e-product, e-value, e-whole) (omega (arith, ints))
