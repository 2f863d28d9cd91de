use Rattle.unit_rows.proofs.Common.{rules, ◌≡◌, ◌+◌, ◌-◌, suc, ◌-ℤ◌, length, ap, ◌∙◌, arith, to_z, of_z}
use Rattle.unit_rows.proofs.Common.{length-set, FitsSigned, w64, signed, to_z-of_z, thermal_of, prices_of, stored_is}
use Rattle.unit_rows.proofs.Common.{get_or-set_same, pos, sym}
use Rattle.unit_rows.proofs.Lemmas.{period_net, limits_more, limits_whole, none_known}
use Rattle.unit_rows.proofs.limits.write_cost_limits_by_period.Goals as goal

pub loop-back-init : goal.loop-back-init
loop-back-init c = record {
  here = search rules;
  right = search rules;
  bound = search rules;
  same = search rules;
  known = none_known c.args.unit.now.points.items;
}

pub loop-back-preserved : goal.loop-back-preserved
loop-back-preserved c =
    let g = thermal_of c.args.unit.now in
    let π = prices_of c.args.prices.now in
    let T = length c.args.prices.now.energy.items in
    let back = c.loop-back.back in
    let index = c.len-periods.result - 1 - back in
    let old = c.loop-back.limits.items in
    let limit = to_z w64 c.loop-back.limit-bits in
    let least = c.least_cost_of_period-limit.result in
    let bound = c.least_cost_of_period-limit.ensures.bound in
    let inv = c.loop-back.invariant in
    let within = inv.bound in
    let same = inv.same in
    let least_is : to_z w64 (of_z w64 least) ≡ least = stored_is least (omega signed) in
    let left : to_z w64 (of_z w64 (limit -ℤ to_z w64 (of_z w64 least))) ≡ limit -ℤ least =
    rw least_is (stored_is (limit -ℤ least) (omega signed)) in
    let before : T - back ≡ suc index = omega arith in
    let here : T - (back + 1) ≡ index = omega arith in
    let items = rw left at c.set-in-loop-back.ensures.items in
    let energy_is = to_z-of_z w64 c.get-energy.result.now (search rules) in
    let reserve_is = to_z-of_z w64 c.get.result.now (search rules) in
    let told = rw (energy_is, reserve_is) at c.least_cost_of_period-limit.ensures.least in
    record {
      here = rw (here, items, left) (sym (get_or-set_same old index (limit -ℤ least) (pos 0) (omega arith)));
      right = rw here (limits_more g π _ index old _ limit least (omega arith) (omega arith) items
          (rw before at inv.here) bound.at_most (period_net g π index c.get-energy.result.now c.get.result.now least
          c.get-energy.ensures.item c.get.ensures.item told) (rw before at inv.right));
      bound = omega signed;
      known = c.least_cost_of_period-limit.ensures.known;
      same = ap length items ∙ length-set old _ _ ∙ same;
    }

pub returns-clause-limits : goal.returns-clause-limits
returns-clause-limits c =
    let done : length c.args.prices.now.energy.items - c.loop-back.back ≡ 0 = omega arith in
    let fits : FitsSigned w64 c.args.most = search rules in
    limits_whole (thermal_of c.args.unit.now) (prices_of c.args.prices.now) c.args.most c.loop-back.limits.items
    (rw (done, to_z-of_z w64 c.args.most fits) at c.loop-back.invariant.right)
