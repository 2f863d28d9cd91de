use Rattle.right_report.proofs.Common.{rules, ap, sym, ◌∙◌, length, w128, to_z-of_z, PriceLists, proposal_of}
use Rattle.right_report.proofs.Lemmas.{chosen_row_at}
use Rattle.right_report.proofs.side.fixed_report_side_of_finished_board.Goals as goal

pub copy_prices-requires : goal.copy_prices-requires
copy_prices-requires c =
    let e = c.chosen_proposal_of_finished_board-choice.ensures in
    (chosen_row_at c.rows_of_history_are_within_limits.ensures c.args.closed.now c.rows.result.now
    c.chosen_proposal_of_finished_board-choice.result.chosen
    c.index-rows-choice.result c.rows.ensures.setup c.rows.ensures.legal
    c.rows.ensures.rows e.chosen e.first e.last c.index-rows-choice.is).horizon ∙ sym c.requires.horizon

pub returns-clause-choice : goal.returns-clause-choice
returns-clause-choice c =
    let e = c.chosen_proposal_of_finished_board-choice.ensures in
    let row = c.index-rows-choice.result in
    let at = chosen_row_at c.rows_of_history_are_within_limits.ensures c.args.closed.now c.rows.result.now
    c.chosen_proposal_of_finished_board-choice.result.chosen row c.rows.ensures.setup c.rows.ensures.legal
    c.rows.ensures.rows e.chosen e.first e.last c.index-rows-choice.is in
    record {
      proposals = e.proposals;
      chosen = e.chosen;
      row = proposal_of row;
      is_chosen = at.is_chosen;
      value = to_z-of_z w128 c.chosen_proposal_of_finished_board-choice.result.value (search rules) ∙ e.value
          ∙ at.value;
      prices = c.copy_prices.ensures;
    }

pub returns-clause-horizon : goal.returns-clause-horizon
returns-clause-horizon c =
    let e = c.chosen_proposal_of_finished_board-choice.ensures in
    ap (λ (π : PriceLists). length π.energy) c.copy_prices.ensures
    ∙ (chosen_row_at c.rows_of_history_are_within_limits.ensures c.args.closed.now c.rows.result.now
    c.chosen_proposal_of_finished_board-choice.result.chosen
    c.index-rows-choice.result c.rows.ensures.setup c.rows.ensures.legal
    c.rows.ensures.rows e.chosen e.first e.last c.index-rows-choice.is).horizon
