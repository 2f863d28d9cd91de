use Rattle.case_make.proofs.Common.{◌+◌, ◌*◌, ap, sym, subst, map, arith, named_thermal_of, IsSmall, named_unit}
use Rattle.case_make.proofs.Common.{unit_plan, thermal_units, thermal_plan}
use Rattle.case_make.proofs.Lemmas.{unit_named, unit_planned, pushed, viewed, thermal_small, smaller, not_moved}
use Rattle.case_make.proofs.Lemmas.{then_moved}
use Rattle.case_make.proofs.make.add_thermal.Goals as goal

pub loop-i-init : goal.loop-i-init
unfolding thermal_units thermal_plan
loop-i-init c = record {
  named = ap (map named_thermal_of) c.in_ok-units.ensures.empty;
  planned = c.requires.empty;
  summed = c.requires.summed;
  moved = sym (not_moved c.args.random.now);
  room = omega (arith, c.in_ok-units.ensures.room);
  plan_room = omega (arith, c.requires.room);
}

pub add_unit-requires-clause-small : goal.add_unit-requires-clause-small
add_unit-requires-clause-small c =
    subst (IsSmall 100000000) (sym c.loop-i.invariant.planned)
    (smaller _ (thermal_small c.args.random.now c.loop-i.i (omega arith)))

pub loop-i-preserved : goal.loop-i-preserved
unfolding thermal_units thermal_plan
loop-i-preserved c =
    let g = c.args.random.now in
    let i = c.loop-i.i in
    let kept = c.loop-i.invariant in
    let next = c.in_ok-unit.ensures in
    record {
      named = viewed named_thermal_of (named_unit g) i _ _ _ c.push.ensures.items kept.named
          (unit_named i g c.loop-i.random _ kept.moved next.unit);
      planned = pushed (unit_plan g) i _ _ _ next.plan kept.planned (unit_planned i g c.loop-i.random kept.moved);
      summed = next.summed;
      moved = then_moved (9 * i) 9 (9 * (i + 1)) g _ _ kept.moved next.moved (omega arith);
      room = omega (arith, kept.room, c.push.ensures.spare);
      plan_room = omega (arith, kept.plan_room, next.room);
    }
