use Rattle.unit_rows.proofs.Common.{rules, ◌-ℤ◌, ◌*ℤ◌, ◌≤ℤ◌, ◌∙◌, to_z, of_z, FitsSigned, All, w64, to_z-of_z}
use Rattle.unit_rows.proofs.Common.{Point, thermal_of, bounded}
use Rattle.unit_rows.proofs.Lemmas.{reserve_left, price_stored, min_low, period_low}
use Rattle.unit_rows.proofs.limits.least_cost_of_period.Goals as goal

pub overflow_mul-reserve : goal.overflow_mul-reserve
overflow_mul-reserve c = (reserve_left c.requires.reserve c.args.unit.now.valid.max_power
    c.least_net_cost_with_price_bounds-least.ensures.bound).product_fits

pub overflow_sub-least : goal.overflow_sub-least
overflow_sub-least c = (reserve_left c.requires.reserve c.args.unit.now.valid.max_power
    c.least_net_cost_with_price_bounds-least.ensures.bound).fits

pub returns-clause-bound : goal.returns-clause-bound
returns-clause-bound c =
    let left = reserve_left c.requires.reserve c.args.unit.now.valid.max_power
    c.least_net_cost_with_price_bounds-least.ensures.bound in
    let within = left.within in
    let is = left.is in
    let fits : FitsSigned w64 c.min.result = search rules in
    rw (to_z-of_z w64 c.min.result fits ∙ c.min.ensures.value) (omega bounded)

pub returns-clause-least : goal.returns-clause-least
returns-clause-least c =
    let u = c.args.unit.now in
    let reserve = c.args.reserve in
    let least = c.least_net_cost_with_price_bounds-least.result in
    let fits : FitsSigned w64 c.min.result = search rules in
    let left = reserve_left c.requires.reserve u.valid.max_power
    c.least_net_cost_with_price_bounds-least.ensures.bound in
    let told = rw (c.as_slice.ensures) at c.least_net_cost_with_price_bounds-least.ensures.least in
    let all : All (λ (p : Point). least ≤ℤ (p.cost -ℤ ((c.args.energy -ℤ reserve) *ℤ p.at))) u.points.items =
    simp (price_stored c.args.energy reserve c.requires.energy c.requires.reserve) at told in
    let low : to_z w64 (of_z w64 c.min.result) ≤ℤ (least -ℤ (reserve *ℤ u.max_power)) =
    rw (to_z-of_z w64 c.min.result fits ∙ c.min.ensures.value) (min_low left.is) in
    period_low c.envelope_earns_as_points.ensures (thermal_of u) u.valid c.args.energy reserve least
    (to_z w64 (of_z w64 c.min.result)) c.requires.reserve.at_least all low
