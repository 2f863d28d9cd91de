use Rattle.case_make.proofs.Common.{◌+◌, ◌≡◌, sym, subst, arith, IsThermalUnit, min_of, ramp_of}
use Rattle.case_make.proofs.Lemmas.{has_range}
use Rattle.case_make.proofs.UnitLaws.{kept, unit_is, unit_limited, first_power_low}
use Rattle.case_make.proofs.units.thermal_unit_of_draws.Goals as goal

pub overflow_add-limit : goal.overflow_add-limit
overflow_add-limit c = omega (arith, has_range c.args.draws.now c.requires)

pub invariant_of-result : goal.invariant_of-result
invariant_of-result c =
    let d = c.args.draws.now in
    let r = has_range d c.requires in
    let limit : c.min_power.result + c.ramp.result ≡ min_of d + ramp_of d = omega arith in
    record {
      valid = subst IsThermalUnit (sym (unit_is d _ _ _ _ _ _ _ _ _ _ _ _ _
          (kept _ _ _ c.from.ensures c.min_power-2.ensures (omega (arith, r)))
          (kept _ _ _ c.from-2.ensures c.max_power.ensures (omega (arith, r)))
          (kept _ _ _ c.from-3.ensures c.ramp-2.ensures (omega (arith, r)))
          (kept _ _ _ c.from-4.ensures c.ramp-3.ensures (omega (arith, r)))
          (kept _ _ _ c.from-5.ensures limit (omega (arith, r)))
          (kept _ _ _ c.from-6.ensures limit (omega (arith, r)))
          (kept _ _ _ c.from-7.ensures c.initial_power.ensures (first_power_low d c.requires))
          c.is_on.ensures c.initial_periods_on.ensures c.initial_periods_off.ensures c.in_ok-lags.ensures
          c.in_ok-points.ensures
          c.in_ok-window.ensures))
          (unit_limited d c.requires);
    }

pub returns : goal.returns
returns c =
    let d = c.args.draws.now in
    let r = has_range d c.requires in
    let limit : c.min_power.result + c.ramp.result ≡ min_of d + ramp_of d = omega arith in
    unit_is d _ _ _ _ _ _ _ _ _ _ _ _ _
    (kept _ _ _ c.from.ensures c.min_power-2.ensures (omega (arith, r)))
    (kept _ _ _ c.from-2.ensures c.max_power.ensures (omega (arith, r)))
    (kept _ _ _ c.from-3.ensures c.ramp-2.ensures (omega (arith, r)))
    (kept _ _ _ c.from-4.ensures c.ramp-3.ensures (omega (arith, r)))
    (kept _ _ _ c.from-5.ensures limit (omega (arith, r)))
    (kept _ _ _ c.from-6.ensures limit (omega (arith, r)))
    (kept _ _ _ c.from-7.ensures c.initial_power.ensures (first_power_low d c.requires))
    c.is_on.ensures c.initial_periods_on.ensures c.initial_periods_off.ensures c.in_ok-lags.ensures
    c.in_ok-points.ensures
    c.in_ok-window.ensures
