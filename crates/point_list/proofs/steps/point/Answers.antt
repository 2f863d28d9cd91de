use Rattle.point_list.proofs.Common.{◌≡◌, List, [], ◌∷◌, sym, subst, rules, arith, to_z, of_z, w64, to_z-of_z, Knot}
use Rattle.point_list.proofs.Common.{IsCountedList}
use Rattle.point_list.proofs.steps.point.Goals as goal

pub returns-clause-breaks : goal.returns-clause-breaks
returns-clause-breaks c =
    let e-at : to_z w64 (of_z w64 c.args.at) ≡ c.args.at = to_z-of_z w64 _ c.ranges.at in
    let e-value : to_z w64 (of_z w64 c.args.value) ≡ c.args.value = to_z-of_z w64 _ c.ranges.value in
    let one : List Knot = record { at = c.args.at; value = c.args.value } ∷ [] in
    let items : c.push.new.self.items ≡ one = search rules in
    subst IsCountedList (sym items)
    (record {
      breaks = (c.knots_decide.ensures.point one c.requires.power c.requires.amount).0;
      count =
          omega arith;
    })
