use Rattle.test_units.proofs.Common.{length, ap, ◌∙◌, arith, length-replicate}
use Rattle.test_units.proofs.answer.filled_table.Goals as goal

pub fill-requires-clause-costs : goal.fill-requires-clause-costs
fill-requires-clause-costs g c =
    let periods = c.len-periods.ensures in
    let same = ap length c.in_ok-costs.ensures ∙ length-replicate _ _ in
    omega (arith, same, periods)

pub fill-requires-clause-room : goal.fill-requires-clause-room
fill-requires-clause-room g c =
    let periods = c.len-periods.ensures in
    let same = ap length c.in_ok-table.ensures ∙ length-replicate _ _ in
    omega (arith, same, periods)

pub returns-clause-room : goal.returns-clause-room
returns-clause-room g c =
    let periods = c.len-periods.ensures in
    let same = c.fill.ensures.length ∙ ap length c.in_ok-table.ensures ∙ length-replicate _ _ in
    omega (arith, same, periods)
