use Rattle.board_store.proofs.Common.{arith}
use Rattle.board_store.proofs.Lemmas.{all_more}
use Rattle.board_store.proofs.table.are_cells_all.Goals as goal

pub loop-cell-preserved : goal.loop-cell-preserved
loop-cell-preserved g c =
    all_more c.args.cells.now c.loop-cell.cell-index c.cell-item.result c.args.value c.loop-cell.same c.is-same.result
    c.loop-cell.invariant (omega (arith, c.loop-cell-test.true)) c.cell-item.is c.is-same.ensures
