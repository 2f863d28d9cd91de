use Rattle.test_shapes.proofs.Lemmas.{ended_shapes_leave_nothing}
use Rattle.test_shapes.proofs.laws.ended_shapes_leave_nothing.Goals as goal

pub returns : goal.returns
returns g c =
    let shape = g.S.Shape in
    ended_shapes_leave_nothing g.S.Home.Cells.cell_list shape.is_in shape.numbers shape.function
    g.met.S.Shape.same_cells (λ h s here. (g.met.S.Shape.owns h s here).used)
