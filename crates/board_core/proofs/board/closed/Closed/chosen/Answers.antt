use Rattle.board_core.proofs.Common.{arith}
use Rattle.board_core.proofs.board.closed.Closed.chosen.Goals as goal

pub overflow_cast-result : goal.overflow_cast-result
overflow_cast-result c =
    let place = c.row_of_greatest_dual_value.ensures.place in
    let few = c.rows.ensures.count in
    omega (arith, place, few)

pub overflow_add-result : goal.overflow_add-result
overflow_add-result c =
    let place = c.row_of_greatest_dual_value.ensures.place in
    let few = c.rows.ensures.count in
    omega (arith, place, few)
