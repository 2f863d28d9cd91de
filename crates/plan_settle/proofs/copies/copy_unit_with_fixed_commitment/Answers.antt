use Rattle.plan_settle.proofs.Common.{rules, refl, FitsSigned, to_z-of_z, thermal_of, schedule_of}
use Rattle.std.specs.Int.{w64}
use Rattle.plan_settle.proofs.Lemmas.{held_limits}
use Rattle.plan_settle.proofs.copies.copy_unit_with_fixed_commitment.Goals as goal

pub invariant_of-result : goal.invariant_of-result
invariant_of-result c =
    let f1 : FitsSigned w64 c.args.unit.now.min_power = search rules in
    let f2 : FitsSigned w64 c.args.unit.now.max_power = search rules in
    let f3 : FitsSigned w64 c.args.unit.now.ramp_up = search rules in
    let f4 : FitsSigned w64 c.args.unit.now.ramp_down = search rules in
    let f5 : FitsSigned w64 c.args.unit.now.start_limit = search rules in
    let f6 : FitsSigned w64 c.args.unit.now.stop_limit = search rules in
    let f7 : FitsSigned w64 c.args.unit.now.power0 = search rules in
    let base = held_limits (thermal_of c.args.unit.now) (schedule_of c.args.response.now) _ c.args.unit.now.valid refl
    c.requires in
    record { valid = simp to_z-of_z (rw (c.in_ok-lags.ensures, c.in_ok-points.ensures, c.in_ok-window.ensures) base) }
