use Rattle.point_list.proofs.law.cells_are_bounded.Goals as goal

pub returns : goal.returns
returns c = c.cells_are_bounded.ensures.bounded
