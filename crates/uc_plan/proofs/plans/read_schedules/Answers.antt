use Rattle.uc_plan.proofs.Common.{◌+◌, refl, ap, arith, err_from_is_err_and, members_in, shape_site}
use Rattle.uc_plan.proofs.Lemmas.{front_begin, front_more, front_fails, front_done}
use Rattle.uc_plan.proofs.plans.read_schedules.Goals as goal

pub loop-named-init : goal.loop-named-init
loop-named-init g c = record {
  count = refl;
  room = omega arith;
  front = front_begin _ g.N.Named.name_of c.args.periods c.args.kind (members_in c.args.object) c.args.units.now
      c.args.plan.now.items;
}

pub returns-in_err-response-clause-value : goal.returns-in_err-response-clause-value
returns-in_err-response-clause-value g c =
    let p = err_from_is_err_and c.from_residual-in_err-response.result c.from_residual-in_err-response.ensures.1 in
    rw (p.1, p.2) (front_fails _ g.N.Named.name_of c.args.periods c.args.kind (members_in c.args.object)
    c.args.units.now c.loop-named.named-index c.args.plan.now.items c.loop-named.plan.items c.named-item.result
    (shape_site c.args.kind (c.loop-named.unit + 1)) c.name.result.now c.in_err-response.field-0.0
    c.loop-named.invariant.front c.loop-named-test.true c.named-item.is
    (ap (λ n. shape_site c.args.kind (n + 1)) c.loop-named.invariant.count) c.name.ensures
    (c.in_err-response.ensures.value (members_in c.args.object) c.in_ok-values.ensures))

pub loop-named-preserved : goal.loop-named-preserved
loop-named-preserved g c = record {
  count = ap (λ n. n + 1) c.loop-named.invariant.count;
  room = omega (arith, c.push.ensures.spare, c.loop-named.invariant.room);
  front = front_more _ g.N.Named.name_of c.args.periods c.args.kind (members_in c.args.object) c.args.units.now
      c.loop-named.named-index c.args.plan.now.items c.loop-named.plan.items c.push.new.self.items c.named-item.result
      (shape_site c.args.kind (c.loop-named.unit + 1)) c.name.result.now c.in_ok-response.response
      c.loop-named.invariant.front c.loop-named-test.true c.named-item.is
      (ap (λ n. shape_site c.args.kind (n + 1)) c.loop-named.invariant.count) c.name.ensures
      (c.in_ok-response.ensures.value (members_in c.args.object) c.in_ok-values.ensures) c.in_ok-response.ensures.shape
      c.push.ensures.items;
}

pub returns-clause-value : goal.returns-clause-value
returns-clause-value g c =
    let f = c.loop-named.invariant.front in (
      f.front,
      front_done _ g.N.Named.name_of c.args.periods c.args.kind (members_in c.args.object) c.args.units.now
          c.loop-named.named-index c.args.plan.now.items c.loop-named.plan.items f c.loop-named-test.false,
      f.items,
      omega (arith, f.count, c.loop-named-test.false, c.loop-named.auto.named-index-end),
      f.shaped,
    )
