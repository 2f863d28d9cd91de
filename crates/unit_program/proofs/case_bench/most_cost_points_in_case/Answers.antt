use Rattle.unit_program.proofs.Common.{◌≡◌, ◌<◌, ◌≤◌, List, length, get_or, refl, ap, subst, arith, slice_get_read}
use Rattle.unit_program.proofs.Common.{NamedUnit}
use Rattle.unit_program.proofs.Lemmas.{greater, greater_within, few_more, all_few}
use Rattle.unit_program.proofs.case_bench.most_cost_points_in_case.Goals as goal

pub loop-named-preserved : goal.loop-named-preserved
loop-named-preserved c =
    let units = c.args.case.now.thermal.items in
    let k = c.loop-named.named-index in
    let u = c.named-item.result in
    let same = c.as_slice-named-items.ensures in
    let lengths = ap (length {A = NamedUnit}) same in
    let test = c.loop-named-test.true in
    let within : k < length units = omega (arith, test, lengths) in
    let is = subst (λ (xs : List NamedUnit). u ≡ get_or xs k u) same c.named-item.is in
    let at = slice_get_read units (length units) k u refl within is in
    let count = c.len.ensures in
    let few : length u.unit.points.items ≤ 32 = u.unit.valid.point_count in
    let most = greater c.loop-named.most c.len.result c.max-most.result c.max-most.ensures in
    let second = most.1 in
    record {
      limit = greater_within c.loop-named.most c.len.result c.max-most.result 32 c.max-most.ensures
          c.loop-named.invariant.limit (omega (arith, count, few));
      each = few_more units k c.loop-named.most c.max-most.result u at most.0 (omega (arith, second, count))
          c.loop-named.invariant.each;
    }

pub returns-clause-each : goal.returns-clause-each
returns-clause-each c =
    let past = c.loop-named-test.false in
    let lengths = ap (length {A = NamedUnit}) c.as_slice-named-items.ensures in
    all_few c.args.case.now.thermal.items c.loop-named.named-index c.loop-named.most (omega (arith, past, lengths))
    c.loop-named.invariant.each
