use Rattle.board_store.proofs.Lemmas.{rows_are_within, model_laws}
use Rattle.board_store.proofs.laws.rows_of_history_are_within_limits.Goals as goal

pub returns : goal.returns
returns c = rows_are_within (model_laws c.outputs_are_within.ensures c.earnings_are_within.ensures
    c.units_are_within.ensures c.power_and_reserve_totals_are_within.ensures c.demand_worth_is_within.ensures)
