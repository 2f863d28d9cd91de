use Rattle.report_compare.proofs.Common.{◌∷◌, [], codes, refl, true, w128, to_z-of_z, report_of, foot_lines}
use Rattle.report_compare.proofs.Lemmas.{judged_compare, amount_judged}
use Rattle.report_compare.proofs.parts.compare_foot.Goals as goal

pub returns : goal.returns
unfolding report_of
returns c =
    let r = c.args.report.now in
    let s = c.args.settlement.now in
    let bs = c.same_amount.result ∷ c.same_amount-2.result ∷ c.same_amount-3.result ∷ true ∷ [] in
    let gap = rw (to_z-of_z w128 c.args.gap c.ranges.gap) at c.same_amount-3.ensures in
    rw c.first_wrong_line.ensures
    (judged_compare c.args.first bs (foot_lines r.surplus r.payments r.gap) (foot_lines s.surplus s.total c.args.gap) (
      amount_judged (codes "surplus ") c.same_amount.result r.surplus s.surplus c.same_amount.ensures,
      (
        amount_judged (codes "payments ") c.same_amount-2.result r.payments s.total c.same_amount-2.ensures,
        (
          amount_judged (codes "gap ") c.same_amount-3.result r.gap c.args.gap gap,
          (refl, tt),
        ),
      ),
    ))
