use Rattle.price_space.proofs.Common.{rules, ◌≡◌, ◌<◌, ◌≤◌, ◌+◌, ◌^◌, true, int_le, get_or, ℤ, pos, ◌<ℤ◌, ◌≤ℤ◌}
use Rattle.price_space.proofs.Common.{FitsSigned, take, length, ap, sym, subst, arith, ints, to_z-of_z, to_z_pos}
use Rattle.price_space.proofs.Common.{take_all, sum_by_more, w64, sum_by, IsStartPrice}
use Rattle.price_space.proofs.Lemmas.{power_of, stops_at, ends_short, from_true, abs_up_to}
use Rattle.price_space.proofs.start.full_load_price_covering_demand.Goals as goal

pub returns-then-short-power : goal.returns-then-short-power
returns-then-short-power c =
    let i = c.loop-unit.unit-index in
    let r = c.ranges.short in
    let within = c.loop-unit-test.true in
    let a : FitsSigned w64 (get_or c.args.units.now c.loop-unit.unit-index
    (record { price = pos 0; power = pos 0 })).price = search rules in
    let b : FitsSigned w64 (get_or c.args.units.now c.loop-unit.unit-index
    (record { price = pos 0; power = pos 0 })).power = search rules in
    let output = c.requires.powers c.loop-unit.unit-index (record { price = pos 0; power = pos 0 }) within in
    let low = output.at_least in
    let high = output.at_most in
    let few = c.requires.count in
    let bound = c.loop-unit.invariant.bound in
    let so_far = c.loop-unit.invariant.so_far in
    let more = sum_by_more power_of c.args.units.now c.loop-unit.unit-index (record { price = pos 0; power = pos 0 })
    within in
    let size : power_of (get_or c.args.units.now c.loop-unit.unit-index (record { price = pos 0; power = pos 0 }))
    ≤ 10000000 = abs_up_to 10000000 _ low high in
    let small : c.loop-unit.power + power_of
    (get_or c.args.units.now c.loop-unit.unit-index (record { price = pos 0; power = pos 0 })) < 2 ^ 63 =
    omega (arith, bound, size, few, within) in
    let test = simp to_z-of_z at c.if-short-power.true in
    let wide = to_z_pos w64 (c.loop-unit.power + power_of
    (get_or c.args.units.now c.loop-unit.unit-index (record { price = pos 0; power = pos 0 }))) small in
    let enough = from_true c.args.short _ (subst (λ (z : ℤ). int_le c.args.short z ≡ true) wide test) in
    let now : c.args.short ≤ℤ pos (sum_by power_of (take (c.loop-unit.unit-index + 1) c.args.units.now)) =
    omega (arith, ints, enough, more, so_far) in
    let before : 0 < c.loop-unit.unit-index →
    pos (sum_by power_of (take c.loop-unit.unit-index c.args.units.now)) <ℤ c.args.short = λ some.
    (let little = c.loop-unit.invariant.too_little some in omega (arith, ints, little, so_far)) in
    simp to_z-of_z (stops_at c.args.units.now c.loop-unit.unit-index (record { price = pos 0; power = pos 0 })
    c.args.short c.requires.rising within before now)

pub returns : goal.returns
returns c =
    let r = c.ranges.short in
    let a : FitsSigned w64 c.price_of_last_unit.result = search rules in
    let past = c.loop-unit-test.false in
    let whole = ap (sum_by power_of) (take_all c.loop-unit.unit-index c.args.units.now past) in
    let so_far = c.loop-unit.invariant.so_far in
    let few : 0 < length c.args.units.now → pos (sum_by power_of c.args.units.now) <ℤ c.args.short = λ some.
    (let low = c.loop-unit.invariant.too_little (omega (arith, some, past)) in
    omega (arith, ints, low, whole, so_far)) in
    let start = ends_short c.args.units.now c.args.short c.requires.rising few in
    simp to_z-of_z (subst (λ (z : ℤ). IsStartPrice c.args.units.now c.args.short z) (sym c.price_of_last_unit.ensures)
    start)
