use Rattle.plan_settle.proofs.Common.{ap, arith, length, refl, length-map, market_of, schedules_of, proposal_of}
use Rattle.plan_settle.proofs.SettleLaws.{chosen_place, row_at_place, row_is_long, tops_for, settled_record}
use Rattle.plan_settle.proofs.chosen.settle_at_chosen_prices.Goals as goal

pub chosen-chosen-requires : goal.chosen-chosen-requires
chosen-chosen-requires c =
    (chosen_place c.finished_has_row.ensures c.one_row_is_chosen.ensures c.args.closed.now _ c.rows-rows.ensures.setup
    c.requires.finished refl).some

pub collect_unit_earnings_at_row-requires-clause-first : goal.collect_unit_earnings_at_row-requires-clause-first
collect_unit_earnings_at_row-requires-clause-first c =
    (chosen_place c.finished_has_row.ensures c.one_row_is_chosen.ensures c.args.closed.now c.chosen-chosen.result
    c.rows-rows.ensures.setup c.requires.finished c.chosen-chosen.ensures).first

pub collect_unit_earnings_at_row-requires-clause-last : goal.collect_unit_earnings_at_row-requires-clause-last
collect_unit_earnings_at_row-requires-clause-last c =
    (chosen_place c.finished_has_row.ensures c.one_row_is_chosen.ensures c.args.closed.now c.chosen-chosen.result
    c.rows-rows.ensures.setup c.requires.finished c.chosen-chosen.ensures).last

pub overflow_sub-row : goal.overflow_sub-row
overflow_sub-row c =
    (chosen_place c.finished_has_row.ensures c.one_row_is_chosen.ensures c.args.closed.now c.chosen-chosen.result
    c.rows-rows.ensures.setup c.requires.finished c.chosen-chosen.ensures).first

pub bounds-rows-chosen : goal.bounds-rows-chosen
bounds-rows-chosen c =
    let index = chosen_place c.finished_has_row.ensures c.one_row_is_chosen.ensures c.args.closed.now
    c.chosen-chosen.result c.rows-rows.ensures.setup c.requires.finished c.chosen-chosen.ensures in
    let first = index.first in
    let last = index.last in
    omega (arith, first, last, ap length c.rows-rows.ensures.rows, length-map c.rows-rows.result.now proposal_of)

pub settle-requires-clause-horizon : goal.settle-requires-clause-horizon
settle-requires-clause-horizon c =
    let closed = c.args.closed.now in
    let chosen = c.chosen-chosen.result in
    let row = c.index-rows-chosen.result in
    let index = chosen_place c.finished_has_row.ensures c.one_row_is_chosen.ensures closed chosen
    c.rows-rows.ensures.setup c.requires.finished c.chosen-chosen.ensures in
    let first = index.first in
    let last = index.last in
    let there = row_at_place closed c.rows-rows.result.now chosen row c.rows-rows.ensures.rows
    (omega (
      arith,
      first,
      last,
      ap length c.rows-rows.ensures.rows,
      length-map c.rows-rows.result.now proposal_of,
    )) c.index-rows-chosen.is in
    row_is_long c.rows_of_history_are_within_limits.ensures closed chosen row (market_of c.case.result.now)
    c.rows-rows.ensures.setup
    c.rows-rows.ensures.legal there c.case.ensures

pub settle-requires-clause-best : goal.settle-requires-clause-best
settle-requires-clause-best c =
    let closed = c.args.closed.now in
    let chosen = c.chosen-chosen.result in
    let row = c.index-rows-chosen.result in
    let index = chosen_place c.finished_has_row.ensures c.one_row_is_chosen.ensures closed chosen
    c.rows-rows.ensures.setup c.requires.finished c.chosen-chosen.ensures in
    let first = index.first in
    let last = index.last in
    let there = row_at_place closed c.rows-rows.result.now chosen row c.rows-rows.ensures.rows
    (omega (
      arith,
      first,
      last,
      ap length c.rows-rows.ensures.rows,
      length-map c.rows-rows.result.now proposal_of,
    )) c.index-rows-chosen.is in
    tops_for c.answers_to_row_earn_the_most.ensures closed chosen (proposal_of row) (market_of c.case.result.now)
    c.collect_unit_earnings_at_row.new.earned.items c.as_slice.result.now
    c.rows-rows.ensures.setup c.rows-rows.ensures.legal index there c.collect_unit_earnings_at_row.ensures.count
    c.collect_unit_earnings_at_row.ensures.each
    c.case.ensures c.as_slice.ensures

pub returns : goal.returns
returns c =
    let closed = c.args.closed.now in
    let chosen = c.chosen-chosen.result in
    let row = c.index-rows-chosen.result in
    let index = chosen_place c.finished_has_row.ensures c.one_row_is_chosen.ensures closed chosen
    c.rows-rows.ensures.setup c.requires.finished c.chosen-chosen.ensures in
    let first = index.first in
    let last = index.last in
    let there = row_at_place closed c.rows-rows.result.now chosen row c.rows-rows.ensures.rows
    (omega (
      arith,
      first,
      last,
      ap length c.rows-rows.ensures.rows,
      length-map c.rows-rows.result.now proposal_of,
    )) c.index-rows-chosen.is in (
      proposal_of row,
      settled_record closed c.settle.new.into chosen (proposal_of row) (market_of c.case.result.now)
          (schedules_of c.plan.result.now)
          c.rows-rows.ensures.setup c.rows-rows.ensures.legal c.requires.finished c.chosen-chosen.ensures there
          c.case.ensures c.plan.ensures.plan c.settle.ensures.settled,
    )
