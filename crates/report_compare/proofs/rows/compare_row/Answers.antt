use Rattle.report_compare.proofs.Common.{ℕ, ◌++◌, ◌∷◌, [], codes, proposal_of, numeral, row_lines}
use Rattle.report_compare.proofs.Lemmas.{judged_compare, amount_judged, amounts_judged}
use Rattle.report_compare.proofs.rows.compare_row.Goals as goal

pub returns-clause-lines : goal.returns-clause-lines
returns-clause-lines c = λ (number : ℕ).
    let bs = c.same_amount.result ∷ c.same_prices.result ∷ c.same_prices-2.result ∷ c.same_totals.result
    ∷ c.same_totals-2.result ∷ [] in
    rw c.first_wrong_line.ensures
    (judged_compare c.args.first bs (row_lines number (proposal_of c.args.mine.now))
    (row_lines number (proposal_of c.args.right.now)) (
      amount_judged (codes "proposal " ++ (numeral number ++ codes " value ")) c.same_amount.result
          c.args.mine.now.value c.args.right.now.value c.same_amount.ensures,
      (
        amounts_judged (codes "energy") c.same_prices.result c.args.mine.now.prices.energy.items
            c.args.right.now.prices.energy.items c.same_prices.ensures,
        (
          amounts_judged (codes "reserve") c.same_prices-2.result c.args.mine.now.prices.reserve.items
              c.args.right.now.prices.reserve.items c.same_prices-2.ensures,
          (
            amounts_judged (codes "supplied") c.same_totals.result c.args.mine.now.supply.items
                c.args.right.now.supply.items c.same_totals.ensures,
            (
              amounts_judged (codes "reserved") c.same_totals-2.result c.args.mine.now.reserve.items
                  c.args.right.now.reserve.items c.same_totals-2.ensures,
              tt,
            ),
          ),
        ),
      ),
    ))
