use Rattle.uc_case.proofs.Common.{arith, map, map_push, err_from_is_err_and, member_view, member_views, site, position}
use Rattle.uc_case.proofs.Common.{each_member, counted, is_done, All-push}
use Rattle.uc_case.proofs.Lemmas.{member_goes_on, member_ends}
use Rattle.uc_case.proofs.listed.read_units_into.Goals as goal

pub returns-in_err-unit-clause-value : goal.returns-in_err-unit-clause-value
returns-in_err-unit-clause-value g c =
    let p = err_from_is_err_and c.from_residual.result c.from_residual.ensures.1 in
    rw (p.1, p.2) (member_ends c.in_err-unit.field-0.0 (g.N.Listed.reading c.args.periods) g.N.Listed.plain_of
    c.args.at.field c.args.at.kind c.fault_site_of_unit-site.result c.args.members.now c.loop-member.member-index
    c.member-item.result c.loop-member.list.items c.len.result
    (each_member c.args.at.field c.args.at.kind (g.N.Listed.reading c.args.periods) (member_views c.args.members.now))
    c.loop-member-test.true c.member-item.is c.fault_site_of_unit-site.ensures c.len.ensures c.in_err-unit.ensures.value
    c.loop-member.invariant.so_far)

pub loop-member-preserved : goal.loop-member-preserved
loop-member-preserved g c = record {
  count = counted c.loop-member.list.items c.push.new.self.items c.in_ok-unit.unit c.loop-member.member-index
      c.push.ensures.items c.loop-member.invariant.count;
  room = omega (arith, c.push.ensures.spare, c.loop-member.invariant.room);
  fits = rw (c.push.ensures.items, map_push g.N.Listed.plain_of c.loop-member.list.items c.in_ok-unit.unit)
      (All-push (λ n. g.N.Listed.Keeps c.args.periods n) (map g.N.Listed.plain_of c.loop-member.list.items)
      (g.N.Listed.plain_of c.in_ok-unit.unit) c.loop-member.invariant.fits c.in_ok-unit.ensures.fits);
  so_far = rw c.push.ensures.items (member_goes_on (g.N.Listed.reading c.args.periods) g.N.Listed.plain_of
      c.args.at.field c.args.at.kind c.fault_site_of_unit-site.result c.args.members.now c.loop-member.member-index
      c.member-item.result c.loop-member.list.items c.len.result c.in_ok-unit.unit
      (each_member c.args.at.field c.args.at.kind (g.N.Listed.reading c.args.periods) (member_views c.args.members.now))
      c.loop-member-test.true c.member-item.is c.fault_site_of_unit-site.ensures c.len.ensures
      c.in_ok-unit.ensures.value
      c.loop-member.invariant.so_far);
}

pub returns-clause-value : goal.returns-clause-value
returns-clause-value g c =
    is_done (λ before. (g.N.Listed.reading c.args.periods) (site c.args.at.field c.args.at.kind (position before)))
    member_view c.args.members.now c.loop-member.member-index (map g.N.Listed.plain_of c.loop-member.list.items)
    (each_member c.args.at.field c.args.at.kind (g.N.Listed.reading c.args.periods) (member_views c.args.members.now))
    c.loop-member-test.false c.loop-member.invariant.so_far
