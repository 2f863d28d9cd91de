use Rattle.level_table.proofs.Common.{rules, ◌≡◌, ◌∙◌, Some, refl, arith, to_z, of_z, ℤ, neg_ℤ, ◌+ℤ◌, ◌-ℤ◌, ◌*ℤ◌}
use Rattle.level_table.proofs.Common.{FitsSigned, w64, int_min, ints, to_z-of_z, same_some}
use Rattle.level_table.proofs.ReserveTerm.plus.Goals as goal
use Rattle.level_table.proofs.ReserveTerm.plus.Goals.{After-min}

-- the most reserve at plain numbers
most_is : (c : After-min) → to_z w64 (of_z w64 c.min.result) ≡ int_min c.args.self.now.cap
    (c.args.self.now.up +ℤ c.args.x)
most_is c =
    let cap_power = c.requires.limited.0 in
    let up_power = c.requires.limited.1 in
    let low = up_power.0 in
    let high = up_power.1 in
    let cap_fits : FitsSigned w64 c.args.self.now.cap = search rules in
    let cap : to_z w64 (of_z w64 c.args.self.now.cap) ≡ c.args.self.now.cap = to_z-of_z w64 _ cap_fits in
    let sum : to_z w64 (of_z w64 (to_z w64 (of_z w64 c.args.self.now.up) +ℤ to_z w64 (of_z w64 c.args.x)))
    ≡ c.args.self.now.up +ℤ c.args.x = omega (arith, ints) in
    to_z-of_z w64 _ (record { sfits = c.min.type_inv }) ∙ rw (cap, sum) at c.min.ensures.value

-- the worth of the most reserve, and what is left, fit their type
record Loss (value lost : ℤ) : Type 0 where
  fits : FitsSigned w64 lost
  left : FitsSigned w64 (value -ℤ lost)

loss : (c : After-min) →
    Loss c.args.value (c.args.self.now.mu *ℤ int_min c.args.self.now.cap (c.args.self.now.up +ℤ c.args.x))
loss c =
    let lost = c.args.self.now.mu *ℤ int_min c.args.self.now.cap (c.args.self.now.up +ℤ c.args.x) in
    let fit = c.requires.fits in
    let is : neg_ℤ lost ≡ fit.0 = same_some (Some (neg_ℤ lost)) refl fit.1 in
    let low = fit.2.0 in
    let high = fit.2.1 in
    record { fits = omega (arith, ints); left = omega (arith, ints) }

pub overflow_mul-result : goal.overflow_mul-result
overflow_mul-result c =
    let mu_fits : FitsSigned w64 c.args.self.now.mu = search rules in
    let mu : to_z w64 (of_z w64 c.args.self.now.mu) ≡ c.args.self.now.mu = to_z-of_z w64 _ mu_fits in
    let after = (goal.at.overflow_mul-result c).After-min in
    rw (mu, most_is after) (loss after).fits

pub overflow_sub-result : goal.overflow_sub-result
overflow_sub-result c =
    let mu_fits : FitsSigned w64 c.args.self.now.mu = search rules in
    let mu : to_z w64 (of_z w64 c.args.self.now.mu) ≡ c.args.self.now.mu = to_z-of_z w64 _ mu_fits in
    let after = (goal.at.overflow_sub-result c).After-min in
    let l = loss after in
    let product = to_z-of_z w64 _ l.fits in
    let value : to_z w64 (of_z w64 c.args.value) ≡ c.args.value = to_z-of_z w64 _ c.ranges.value in
    rw (mu, most_is after, product, value) l.left

pub returns : goal.returns
returns c =
    let lost = c.args.self.now.mu *ℤ int_min c.args.self.now.cap (c.args.self.now.up +ℤ c.args.x) in
    let mu_fits : FitsSigned w64 c.args.self.now.mu = search rules in
    let mu : to_z w64 (of_z w64 c.args.self.now.mu) ≡ c.args.self.now.mu = to_z-of_z w64 _ mu_fits in
    let after = (goal.at.returns c).After-min in
    let l = loss after in
    let product : to_z w64 (of_z w64 lost) ≡ lost = to_z-of_z w64 _ l.fits in
    let value : to_z w64 (of_z w64 c.args.value) ≡ c.args.value = to_z-of_z w64 _ c.ranges.value in
    let all : to_z w64 (of_z w64 (c.args.value -ℤ lost)) ≡ c.args.value -ℤ lost = to_z-of_z w64 _ l.left in
    rw (mu, most_is after, product, value, all) (neg_ℤ lost, refl, omega (arith, ints))
