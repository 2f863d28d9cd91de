use Rattle.unit_table.proofs.LimitLaws.{capped_rows_are_rows, limits_are_above_the_amount, starts_are_within_limits}
use Rattle.unit_table.proofs.laws.rows_within_cost_limits_are_kept.Goals as goal

pub returns-clause-rows : goal.returns-clause-rows
returns-clause-rows c = capped_rows_are_rows

pub returns-clause-amount : goal.returns-clause-amount
returns-clause-amount c = limits_are_above_the_amount

pub returns-clause-starts : goal.returns-clause-starts
returns-clause-starts c = starts_are_within_limits
