use Rattle.unit_rows.proofs.Common.{◌-◌, Some, ap, arith, thermal_of}
use Rattle.unit_rows.proofs.RipeLaws.{spell_ripe, none_before}
use Rattle.unit_rows.proofs.commitment.stop_with_min_down_just_met.Goals as goal

pub returns-then-period-unit-clause-only : goal.returns-then-period-unit-clause-only
returns-then-period-unit-clause-only c = λ last ripe.
    ap Some ((spell_ripe (thermal_of c.args.unit.now) c.args.unit.now.valid.min_down_is_one_or_more c.args.period
    (c.args.period - c.args.unit.now.min_down) (omega arith) (omega arith)).1 last ripe)

pub returns-then-down-from-2-clause-only : goal.returns-then-down-from-2-clause-only
returns-then-down-from-2-clause-only c = λ last ripe.
    let few = c.if-period-unit.false in
    let some = c.if-period-gt0.true in
    let down = c.periods_off-down.ensures in
    let long = c.if-down-from-2.true in
    absurd (none_before (thermal_of c.args.unit.now) c.args.unit.now.valid.min_down_is_one_or_more c.args.period few
    some (search (arith, down, long)) last ripe)
