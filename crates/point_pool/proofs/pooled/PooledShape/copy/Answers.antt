use Rattle.point_pool.proofs.Lemmas.{Frame-changes, changes_stored}
use Rattle.point_pool.proofs.pooled.PooledShape.copy.Goals as goal

pub returns-clause-frame : goal.returns-clause-frame
returns-clause-frame c =
    Frame-changes c.args.home.now c.store-head.new.self _ _
    (changes_stored _ _ _ _ (rw c.load.ensures.slots at c.store-head.ensures.stored))
