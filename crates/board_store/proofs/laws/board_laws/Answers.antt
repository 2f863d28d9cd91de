use Rattle.board_store.proofs.BoardLaws.{board_laws}
use Rattle.board_store.proofs.Lemmas.{model_laws}
use Rattle.board_store.proofs.laws.board_laws.Goals as goal

pub returns : goal.returns
returns c = board_laws (model_laws c.outputs_are_within.ensures c.earnings_are_within.ensures
    c.units_are_within.ensures c.power_and_reserve_totals_are_within.ensures c.demand_worth_is_within.ensures)
    c.dual_is_at_most_cost.ensures
