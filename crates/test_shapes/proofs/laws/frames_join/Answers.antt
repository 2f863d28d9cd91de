use Rattle.test_shapes.proofs.Lemmas.{frames_join}
use Rattle.test_shapes.proofs.laws.frames_join.Goals as goal

pub returns : goal.returns
returns g c =
    let shape = g.S.Shape in
    frames_join g.S.Home.Cells.cell_list shape.is_in shape.numbers shape.function g.met.S.Shape.same_cells
    (λ h s here. (g.met.S.Shape.owns h s here).used)
