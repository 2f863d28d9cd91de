use Rattle.law_parts.proofs.Sizes.{rows_within}
use Rattle.law_parts.proofs.bounds.answered_rows_are_within.Goals as goal

pub returns : goal.returns
returns c = rows_within c.units_are_within.ensures c.outputs_are_within.ensures
    c.power_and_reserve_totals_are_within.ensures
    c.dual_values_are_within.ensures
