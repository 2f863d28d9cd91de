use Rattle.report_compare.proofs.Common.{◌∷◌, [], length, w128, to_z-of_z, err_from_is_err_and, market_of, report_of}
use Rattle.report_compare.proofs.Common.{right_opening, opening_lines, number_line}
use Rattle.report_compare.proofs.Lemmas.{behind, stops}
use Rattle.report_compare.proofs.parts.compare_head.Goals as goal

pub returns-in_err-line-clause-lines : goal.returns-in_err-line-clause-lines
returns-in_err-line-clause-lines c =
    let r = report_of c.args.report.now in
    let m = market_of c.args.case.now in
    let p = err_from_is_err_and c.from_residual.result c.from_residual.ensures.1 in
    let opening = rw (to_z-of_z w128 c.args.cost c.ranges.cost) at c.in_err-line.ensures.lines in
    rw (p.1, p.2)
    (stops 1 c.in_err-line.field-0.0 (opening_lines r) (right_opening m c.args.cost r)
    (number_line (length r.rows) ∷ []) (number_line c.args.proposals ∷ []) opening)

pub returns-clause-lines : goal.returns-clause-lines
returns-clause-lines c =
    let r = report_of c.args.report.now in
    let m = market_of c.args.case.now in
    let opening = rw (to_z-of_z w128 c.args.cost c.ranges.cost) at c.in_ok-line.ensures.lines in
    behind 1 c.in_ok-line.line c.compare_proposal_count_line.result (opening_lines r) (right_opening m c.args.cost r)
    (number_line (length r.rows) ∷ []) (number_line c.args.proposals ∷ []) opening
    c.compare_proposal_count_line.ensures.lines
