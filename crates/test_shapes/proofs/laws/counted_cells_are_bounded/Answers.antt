use Rattle.test_shapes.proofs.Lemmas.{charged_by, bounded_by}
use Rattle.test_shapes.proofs.laws.counted_cells_are_bounded.Goals as goal

pub returns-clause-charged : goal.returns-clause-charged
returns-clause-charged g c =
    λ counts. charged_by g.S.Shape.function _ g.S.Shape.cells (λ charge h s h' s' balance. balance.most counts)

pub returns-clause-bounded : goal.returns-clause-bounded
returns-clause-bounded g c =
    λ counts. bounded_by g.S.Shape.function _ g.S.Shape.cells (λ charge h s h' s' balance. balance.most counts)
