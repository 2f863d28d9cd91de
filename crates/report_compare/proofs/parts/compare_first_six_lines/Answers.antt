use Rattle.report_compare.proofs.Common.{◌∷◌, [], codes, refl, true, w128, to_z-of_z, unit_count, market_of, report_of}
use Rattle.report_compare.proofs.Common.{right_opening, opening_lines}
use Rattle.report_compare.proofs.Lemmas.{judged_compare, amount_judged, count_judged}
use Rattle.report_compare.proofs.parts.compare_first_six_lines.Goals as goal

pub returns-clause-lines : goal.returns-clause-lines
unfolding report_of
returns-clause-lines c =
    let r = report_of c.args.report.now in
    let m = market_of c.args.case.now in
    let bs = true ∷ c.same_count.result ∷ c.same_count-2.result ∷ true ∷ true ∷ c.same_amount.result ∷ [] in
    let units = rw c.unit_count.ensures.value at c.same_count-2.ensures in
    let cost = rw (to_z-of_z w128 c.args.cost c.ranges.cost) at c.same_amount.ensures in
    rw c.first_wrong_line.ensures
    (judged_compare 1 bs (opening_lines r) (right_opening m c.args.cost r) (
      refl,
      (
        count_judged (codes "periods ") c.same_count.result r.periods m.periods c.same_count.ensures,
        (
          count_judged (codes "units ") c.same_count-2.result r.units (unit_count m) units,
          (refl, (refl, (amount_judged (codes "cost ") c.same_amount.result r.cost c.args.cost cost, tt))),
        ),
      ),
    ))
