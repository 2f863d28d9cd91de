use Rattle.board_store.proofs.Common.{◌≡◌, ◌↔◌, take, replicate, IsTrue}
use Rattle.board_store.proofs.table.are_cells_all.Given as goal

abbrev pub invariant-loop-cell : goal.invariant-loop-cell
invariant-loop-cell g l = IsTrue l.same ↔ (take l.cell-index l.cells ≡ replicate l.cell-index l.value)
