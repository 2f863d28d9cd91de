use Rattle.right_report.proofs.Common.{rules, ap, sym, subst, arith, IsTold, length, length-map, proposal_of}
use Rattle.right_report.proofs.Choices.{value_told}
use Rattle.right_report.proofs.Lemmas.{most_rows, chosen_in, choice_told}
use Rattle.right_report.proofs.choice.chosen_proposal_of_finished_board.Goals as goal

pub chosen-chosen-requires : goal.chosen-chosen-requires
chosen-chosen-requires c =
    let setup = c.rows-rows.ensures.setup in
    (chosen_in c.finished_has_row.ensures c.args.closed.now setup.some_budget setup.some_ahead c.requires).some

pub overflow_sub-value : goal.overflow_sub-value
overflow_sub-value c =
    let setup = c.rows-rows.ensures.setup in
    let first = (chosen_in c.finished_has_row.ensures c.args.closed.now setup.some_budget setup.some_ahead
    c.requires).first in
    let is = c.chosen-chosen.ensures in
    omega (arith, first, is)

pub bounds-rows-chosen : goal.bounds-rows-chosen
bounds-rows-chosen c =
    let setup = c.rows-rows.ensures.setup in
    let one = chosen_in c.finished_has_row.ensures c.args.closed.now setup.some_budget setup.some_ahead c.requires in
    let first = one.first in
    let last = one.last in
    let is = c.chosen-chosen.ensures in
    let long = ap length c.rows-rows.ensures.rows in
    omega (arith, first, last, is, long, length-map c.rows-rows.result.now proposal_of)

pub bounds-rows-chosen-2 : goal.bounds-rows-chosen-2
bounds-rows-chosen-2 c d =
    let setup = c.rows-rows.ensures.setup in
    let one = chosen_in c.finished_has_row.ensures c.args.closed.now setup.some_budget setup.some_ahead c.requires in
    let first = one.first in
    let last = one.last in
    let is = c.chosen-chosen.ensures in
    let long = ap length c.rows-rows.ensures.rows in
    omega (arith, first, last, is, long, length-map c.rows-rows.result.now proposal_of)

pub overflow_cast-result : goal.overflow_cast-result
overflow_cast-result c =
    let long = ap length c.rows-rows.ensures.rows in
    omega (
      arith,
      most_rows c.finished_history_is_whole_run.ensures c.args.closed.now c.rows-rows.ensures.setup
          c.rows-rows.ensures.legal c.requires,
      long,
      length-map c.rows-rows.result.now proposal_of,
    )

pub overflow_sub-result : goal.overflow_sub-result
overflow_sub-result c =
    (choice_told c.finished_has_row.ensures c.rows_of_history_are_within_limits.ensures c.plan_costs_are_within.ensures
    c.args.closed.now
    c.rows-rows.result.now c.index-rows-chosen.result c.chosen-chosen.result c.cost.result c.rows-rows.ensures.setup
    c.rows-rows.ensures.legal c.requires c.rows-rows.ensures.rows
    c.chosen-chosen.ensures c.index-rows-chosen.is c.cost.ensures.cost (search rules)).gap_fits

pub returns-clause-first : goal.returns-clause-first
returns-clause-first c =
    let setup = c.rows-rows.ensures.setup in
    let first = (chosen_in c.finished_has_row.ensures c.args.closed.now setup.some_budget setup.some_ahead
    c.requires).first in
    let is = c.chosen-chosen.ensures in
    omega (arith, first, is)

pub returns-clause-value : goal.returns-clause-value
returns-clause-value c =
    (choice_told c.finished_has_row.ensures c.rows_of_history_are_within_limits.ensures c.plan_costs_are_within.ensures
    c.args.closed.now
    c.rows-rows.result.now c.index-rows-chosen.result c.chosen-chosen.result c.cost.result c.rows-rows.ensures.setup
    c.rows-rows.ensures.legal c.requires c.rows-rows.ensures.rows
    c.chosen-chosen.ensures c.index-rows-chosen.is c.cost.ensures.cost (search rules)).value

pub returns-clause-gap : goal.returns-clause-gap
returns-clause-gap c =
    (choice_told c.finished_has_row.ensures c.rows_of_history_are_within_limits.ensures c.plan_costs_are_within.ensures
    c.args.closed.now
    c.rows-rows.result.now c.index-rows-chosen.result c.chosen-chosen.result c.cost.result c.rows-rows.ensures.setup
    c.rows-rows.ensures.legal c.requires c.rows-rows.ensures.rows
    c.chosen-chosen.ensures c.index-rows-chosen.is c.cost.ensures.cost (search rules)).gap

pub returns-clause-most : goal.returns-clause-most
returns-clause-most c =
    let long = ap length c.rows-rows.ensures.rows in
    omega (
      arith,
      most_rows c.finished_history_is_whole_run.ensures c.args.closed.now c.rows-rows.ensures.setup
          c.rows-rows.ensures.legal c.requires,
      long,
      length-map c.rows-rows.result.now proposal_of,
    )

pub returns-clause-told : goal.returns-clause-told
returns-clause-told c =
    let setup = c.rows-rows.ensures.setup in
    let legal = c.rows-rows.ensures.legal in
    let one = chosen_in c.finished_has_row.ensures c.args.closed.now setup.some_budget setup.some_ahead c.requires in
    let first = one.first in
    let last = one.last in
    let is = c.chosen-chosen.ensures in
    let told = choice_told c.finished_has_row.ensures c.rows_of_history_are_within_limits.ensures
    c.plan_costs_are_within.ensures
    c.args.closed.now c.rows-rows.result.now c.index-rows-chosen.result c.chosen-chosen.result c.cost.result
    setup legal c.requires c.rows-rows.ensures.rows
    is c.index-rows-chosen.is c.cost.ensures.cost (search rules) in
    subst IsTold (sym told.value)
    (value_told c.rows_of_history_are_within_limits.ensures c.args.closed.now c.chosen-chosen.result setup legal is
    (omega (arith, first, is)) (omega (arith, last, is)))
