use Rattle.point_pool.proofs.Common.{refl}
use Rattle.point_pool.proofs.law.cells_are_bounded.Goals as goal

pub returns : goal.returns
returns c = c.counted_cells_are_bounded.ensures.bounded refl
