use Rattle.case_make.proofs.Common.{◌+◌, ◌*◌, ap, sym, subst, map, arith, append-nil, named_renewable_of, IsSmall}
use Rattle.case_make.proofs.Common.{plan_of, named_renewable, renewable_plan, renewable_units, renewable_plans}
use Rattle.case_make.proofs.Lemmas.{renewable_named, renewable_planned, pushed_after, viewed, grown_small, not_moved}
use Rattle.case_make.proofs.Lemmas.{then_moved}
use Rattle.case_make.proofs.make.add_renewables.Goals as goal

pub loop-j-init : goal.loop-j-init
unfolding renewable_units renewable_plans
loop-j-init c = record {
  named = ap (map named_renewable_of) c.in_ok-units.ensures.empty;
  planned = sym (append-nil (plan_of c.args.plan.now));
  summed = c.requires.summed;
  moved = sym (not_moved c.args.random.now);
  room = omega (arith, c.in_ok-units.ensures.room);
  plan_room = omega (arith, c.requires.room);
}

pub add_renewable_unit-requires-clause-small : goal.add_renewable_unit-requires-clause-small
add_renewable_unit-requires-clause-small c =
    subst (IsSmall 100000000) (sym c.loop-j.invariant.planned)
    (grown_small _ c.args.random.now 0 c.loop-j.j c.requires.small (omega arith))

pub loop-j-preserved : goal.loop-j-preserved
unfolding renewable_units renewable_plans
loop-j-preserved c =
    let g = c.args.random.now in
    let j = c.loop-j.j in
    let kept = c.loop-j.invariant in
    let next = c.in_ok-unit.ensures in
    record {
      named = viewed named_renewable_of (named_renewable g 0) j _ _ _ c.push.ensures.items kept.named
          (renewable_named j g c.loop-j.random _ kept.moved next.unit);
      planned = pushed_after (renewable_plan g 0) j (plan_of c.args.plan.now) _ _ _ next.plan kept.planned
          (renewable_planned j g c.loop-j.random kept.moved);
      summed = next.summed;
      moved = then_moved (49 * j) 49 (49 * (j + 1)) g _ _ kept.moved next.moved (omega arith);
      room = omega (arith, kept.room, c.push.ensures.spare);
      plan_room = omega (arith, kept.plan_room, next.room);
    }
