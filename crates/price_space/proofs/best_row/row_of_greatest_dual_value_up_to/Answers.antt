use Rattle.price_space.proofs.Common.{map, arith, proposal_of, values_of}
use Rattle.price_space.proofs.Lemmas.{first_more}
use Rattle.price_space.proofs.best_row.row_of_greatest_dual_value_up_to.Goals as goal

pub row_of_greater_dual_value-requires-clause-best : goal.row_of_greater_dual_value-requires-clause-best
row_of_greater_dual_value-requires-clause-best c =
    let some = c.if-last-eq0.false in
    let in_range = c.requires.last in
    let within = (c.requires.best (omega (arith, some))).within in
    omega (arith, within, in_range)

pub returns : goal.returns
returns c =
    let some = c.if-last-eq0.false in
    first_more (values_of (map proposal_of c.args.rows.now)) c.args.last c.args.best c.row_of_greater_dual_value.result
    (c.requires.best (omega (arith, some))) c.row_of_greater_dual_value.ensures
