use Rattle.report_compare.proofs.Common.{rules, lit<, ℤ, ◌-ℤ◌, ◌+◌, Ok, Err, List, map, length, arith, sym, w128}
use Rattle.report_compare.proofs.Common.{FitsSigned, flat_map, to_z-of_z, ints, length-map, err_from_is_err_and}
use Rattle.report_compare.proofs.Common.{Schedule, IsWorth, market_of, proposal_of, fits_within, report_of, told_of}
use Rattle.report_compare.proofs.Common.{ap, ◌∙◌, told_lines, answers_of, titles, told_from, right_of}
use Rattle.report_compare.proofs.WholeCompared.{whole_first, whole_second, whole_third, whole_fourth, whole_compared}
use Rattle.report_compare.proofs.WholeCompared.{head_given}
use Rattle.report_compare.proofs.AuditedLaws.{has_schedules, few_units, lines_counted, cost_is_worth}
use Rattle.report_compare.proofs.report.compare_report.Goals as goal

worth_gap : (x y : ℤ) → IsWorth x → IsWorth y → FitsSigned w128 (x -ℤ y)
worth_gap x y h k = let a = h.at_least in let b = h.at_most in let d = k.at_least in let e = k.at_most in
    fits_within w128 2000000000000000000000000 (x -ℤ y)
    (record { at_least = omega (arith, ints, a, b, d, e); at_most = omega (arith, ints, a, b, d, e) }) (lit< tt)

pub returns-in_err-line : goal.returns-in_err-line
unfolding report_of
returns-in_err-line c = λ (responses : List Schedule) fits.
    let audited = c.args.audited.now in
    let m = market_of audited.case.now in
    let r = report_of audited.report.now in
    let compare_room = c.args.compare_room.now in
    let a = answers_of compare_room.earned.items compare_room.settlement responses in
    let q = right_of m a r.budget r.ahead audited.cost (map proposal_of c.args.rows.now) (c.args.choice.now.index + 1)
    c.args.choice.now.row.now.value compare_room.settlement.surplus compare_room.settlement.total in
    let p = err_from_is_err_and c.from_residual.result c.from_residual.ensures.1 in
    let head = rw (to_z-of_z w128 audited.cost (search rules)) at c.in_err-line.ensures.lines in
    rw (p.1, p.2)
    (whole_first r q (flat_map told_lines (map told_of audited.report.now.lines.items))
    (flat_map told_lines (told_from a 0 (titles m))) c.in_err-line.field-0.0
    (head_given m audited.cost (length c.args.rows.now) r q (Err c.in_err-line.field-0.0)
    (sym (length-map c.args.rows.now proposal_of)) head))

pub returns-in_err-line-2 : goal.returns-in_err-line-2
unfolding report_of
returns-in_err-line-2 c = λ (responses : List Schedule) fits.
    let audited = c.args.audited.now in
    let m = market_of audited.case.now in
    let r = report_of audited.report.now in
    let compare_room = c.args.compare_room.now in
    let a = answers_of compare_room.earned.items compare_room.settlement responses in
    let q = right_of m a r.budget r.ahead audited.cost (map proposal_of c.args.rows.now) (c.args.choice.now.index + 1)
    c.args.choice.now.row.now.value compare_room.settlement.surplus compare_room.settlement.total in
    let p = err_from_is_err_and c.from_residual-in_err-line-2.result c.from_residual-in_err-line-2.ensures.1 in
    let head = rw (to_z-of_z w128 audited.cost (search rules)) at c.in_ok-line.ensures.lines in
    let rows = rw c.as_slice.ensures at c.in_err-line-2.ensures.lines in
    rw (p.1, p.2)
    (whole_second r q (flat_map told_lines (map told_of audited.report.now.lines.items))
    (flat_map told_lines (told_from a 0 (titles m))) c.in_ok-line.line c.in_err-line-2.field-0.0
    (head_given m audited.cost (length c.args.rows.now) r q (Ok c.in_ok-line.line)
    (sym (length-map c.args.rows.now proposal_of)) head) rows)

pub returns-in_err-line-3 : goal.returns-in_err-line-3
unfolding report_of
returns-in_err-line-3 c = λ (responses : List Schedule) fits.
    let audited = c.args.audited.now in
    let m = market_of audited.case.now in
    let r = report_of audited.report.now in
    let compare_room = c.args.compare_room.now in
    let a = answers_of compare_room.earned.items compare_room.settlement responses in
    let q = right_of m a r.budget r.ahead audited.cost (map proposal_of c.args.rows.now) (c.args.choice.now.index + 1)
    c.args.choice.now.row.now.value compare_room.settlement.surplus compare_room.settlement.total in
    let p = err_from_is_err_and c.from_residual-in_err-line-3.result c.from_residual-in_err-line-3.ensures.1 in
    let head = rw (to_z-of_z w128 audited.cost (search rules)) at c.in_ok-line.ensures.lines in
    let rows = rw c.as_slice.ensures at c.in_ok-line-2.ensures.lines in
    let chosen = rw (to_z-of_z w128 c.args.choice.now.row.now.value (search rules)) at c.in_err-line-3.ensures.lines in
    rw (p.1, p.2)
    (whole_third r q (flat_map told_lines (map told_of audited.report.now.lines.items))
    (flat_map told_lines (told_from a 0 (titles m))) c.in_ok-line.line c.in_ok-line-2.line c.in_err-line-3.field-0.0
    (head_given m audited.cost (length c.args.rows.now) r q (Ok c.in_ok-line.line)
    (sym (length-map c.args.rows.now proposal_of)) head) rows chosen)

pub returns-in_err-line-4 : goal.returns-in_err-line-4
unfolding report_of
returns-in_err-line-4 c = λ (responses : List Schedule) fits.
    let audited = c.args.audited.now in
    let m = market_of audited.case.now in
    let r = report_of audited.report.now in
    let compare_room = c.args.compare_room.now in
    let a = answers_of compare_room.earned.items compare_room.settlement responses in
    let q = right_of m a r.budget r.ahead audited.cost (map proposal_of c.args.rows.now) (c.args.choice.now.index + 1)
    c.args.choice.now.row.now.value compare_room.settlement.surplus compare_room.settlement.total in
    let p = err_from_is_err_and c.from_residual-in_err-line-4.result c.from_residual-in_err-line-4.ensures.1 in
    let head = rw (to_z-of_z w128 audited.cost (search rules)) at c.in_ok-line.ensures.lines in
    let rows = rw c.as_slice.ensures at c.in_ok-line-2.ensures.lines in
    let chosen = rw (to_z-of_z w128 c.args.choice.now.row.now.value (search rules)) at c.in_ok-line-3.ensures.lines in
    let units = rw c.as_slice-2.ensures at (c.in_err-line-4.ensures.lines responses fits) in
    rw (p.1, p.2)
    (whole_fourth r q (flat_map told_lines (map told_of audited.report.now.lines.items))
    (flat_map told_lines (told_from a 0 (titles m))) c.in_ok-line.line c.in_ok-line-2.line c.in_ok-line-3.line
    c.in_err-line-4.field-0.0
    (head_given m audited.cost (length c.args.rows.now) r q (Ok c.in_ok-line.line)
    (sym (length-map c.args.rows.now proposal_of)) head) rows chosen units)

pub returns : goal.returns
unfolding report_of
returns c = λ (responses : List Schedule) fits.
    let audited = c.args.audited.now in
    let m = market_of audited.case.now in
    let r = report_of audited.report.now in
    let compare_room = c.args.compare_room.now in
    let a = answers_of compare_room.earned.items compare_room.settlement responses in
    let q = right_of m a r.budget r.ahead audited.cost (map proposal_of c.args.rows.now) (c.args.choice.now.index + 1)
    c.args.choice.now.row.now.value compare_room.settlement.surplus compare_room.settlement.total in
    let head = rw (to_z-of_z w128 audited.cost (search rules)) at c.in_ok-line.ensures.lines in
    let rows = rw c.as_slice.ensures at c.in_ok-line-2.ensures.lines in
    let chosen = rw (to_z-of_z w128 c.args.choice.now.row.now.value (search rules)) at c.in_ok-line-3.ensures.lines in
    let units = rw c.as_slice-2.ensures at (c.in_ok-line-4.ensures.lines responses fits) in
    let worth = cost_is_worth c.plan_costs_are_within.ensures audited in
    let fits_gap = worth_gap audited.cost c.args.choice.now.row.now.value worth c.requires.value in
    let gap = rw (
      c.in_ok-line-4.ensures.settlement,
      to_z-of_z w128 audited.cost (search rules),
      to_z-of_z w128 c.args.choice.now.row.now.value (search rules),
      to_z-of_z w128 (audited.cost -ℤ c.args.choice.now.row.now.value) fits_gap,
    ) at c.compare_foot.ensures in
    whole_compared r q (flat_map told_lines (map told_of audited.report.now.lines.items))
    (flat_map told_lines (told_from a 0 (titles m))) c.in_ok-line.line c.in_ok-line-2.line c.in_ok-line-3.line
    c.in_ok-line-4.line c.compare_foot.result
    (head_given m audited.cost (length c.args.rows.now) r q (Ok c.in_ok-line.line)
    (sym (length-map c.args.rows.now proposal_of)) head) rows chosen units gap

pub overflow_sub-audited : goal.overflow_sub-audited
overflow_sub-audited c =
    let audited = c.args.audited.now in
    let worth = cost_is_worth c.plan_costs_are_within.ensures audited in
    rw (to_z-of_z w128 audited.cost (search rules), to_z-of_z w128 c.args.choice.now.row.now.value (search rules))
    (worth_gap audited.cost c.args.choice.now.row.now.value worth c.requires.value)

pub compare_units-requires-clause-some : goal.compare_units-requires-clause-some
compare_units-requires-clause-some c = has_schedules c.args.audited.now

pub compare_units-requires-clause-lines : goal.compare_units-requires-clause-lines
compare_units-requires-clause-lines c =
    ap length c.as_slice-2.ensures ∙ lines_counted c.args.audited.now ∙ c.in_ok-line.ensures.units

pub compare_units-requires-clause-numbers : goal.compare_units-requires-clause-numbers
compare_units-requires-clause-numbers c =
    let head = c.in_ok-line.ensures.next in
    let rows = ap length c.as_slice.ensures in
    let proposals = c.in_ok-line.ensures.proposals in
    let most = c.requires.rows in
    let behind_rows = c.in_ok-line-2.ensures.next in
    let behind_chosen = c.in_ok-line-3.ensures.next in
    let lines = ap length c.as_slice-2.ensures in
    let units = lines_counted c.args.audited.now in
    let few = few_units c.args.audited.now in
    omega (arith, head, rows, proposals, most, behind_rows, behind_chosen, lines, units, few)

pub compare_foot-requires : goal.compare_foot-requires
compare_foot-requires c =
    let head = c.in_ok-line.ensures.next in
    let rows = ap length c.as_slice.ensures in
    let proposals = c.in_ok-line.ensures.proposals in
    let most = c.requires.rows in
    let behind_rows = c.in_ok-line-2.ensures.next in
    let behind_chosen = c.in_ok-line-3.ensures.next in
    let behind_units = c.in_ok-line-4.ensures.few in
    let lines = ap length c.as_slice-2.ensures in
    let units = lines_counted c.args.audited.now in
    let few = few_units c.args.audited.now in
    omega (arith, head, rows, proposals, most, behind_rows, behind_chosen, behind_units, lines, units, few)
