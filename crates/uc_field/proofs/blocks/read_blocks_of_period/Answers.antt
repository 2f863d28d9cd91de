use Rattle.uc_field.proofs.Common.{w64, rules, FitsSigned, to_z-of_z, view}
use Rattle.uc_field.proofs.Lemmas.{period_read, period_refused}
use Rattle.uc_field.proofs.blocks.read_blocks_of_period.Goals as goal

pub returns-then-total_block_width-gt-POWER_LIMIT-clause-value :
    goal.returns-then-total_block_width-gt-POWER_LIMIT-clause-value
returns-then-total_block_width-gt-POWER_LIMIT-clause-value c =
    let fits : FitsSigned w64 c.total_block_width.result = search rules in
    let sum = rw (c.as_slice.ensures) at c.total_block_width.ensures in
    let wide = rw (to_z-of_z w64 c.total_block_width.result fits) at c.if-total_block_width-gt-POWER_LIMIT.true in
    rw c.stop.ensures
    (period_refused c.args.at (view c.args.branch) _ c.in_ok-blocks.ensures.value (rw (← sum) wide))

pub returns-clause-value : goal.returns-clause-value
returns-clause-value c =
    let fits : FitsSigned w64 c.total_block_width.result = search rules in
    let sum = rw (c.as_slice.ensures) at c.total_block_width.ensures in
    let narrow = rw (to_z-of_z w64 c.total_block_width.result fits) at c.if-total_block_width-gt-POWER_LIMIT.false in
    period_read c.args.at (view c.args.branch) _ c.in_ok-blocks.ensures.value (rw (← sum) narrow)
