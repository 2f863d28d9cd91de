use Rattle.test_shapes.proofs.Lemmas.{others_stay}
use Rattle.test_shapes.proofs.laws.others_stay.Goals as goal

pub returns : goal.returns
returns g c =
    let shape = g.S.Shape in
    others_stay g.S.Home.Cells.cell_list shape.is_in shape.numbers shape.function g.met.S.Shape.same_cells
    (λ h s here. (g.met.S.Shape.owns h s here).used)
