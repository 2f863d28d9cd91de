use Rattle.report_compare.proofs.Common.{◌∷◌, [], codes, sym, length, length-map, proposal_of, report_of, number_line}
use Rattle.report_compare.proofs.Lemmas.{judged_compare, count_judged}
use Rattle.report_compare.proofs.parts.compare_proposal_count_line.Goals as goal

pub returns-clause-lines : goal.returns-clause-lines
unfolding report_of
returns-clause-lines c =
    let r = report_of c.args.report.now in
    let same = rw (sym (length-map c.args.report.now.rows.items proposal_of)) at c.same_proposal_count.ensures in
    rw c.first_wrong_line.ensures
    (judged_compare c.args.first (c.same_proposal_count.result ∷ []) (number_line (length r.rows) ∷ [])
    (number_line c.args.proposals ∷ [])
    (count_judged (codes "proposals ") c.same_proposal_count.result (length r.rows) c.args.proposals same, tt))
