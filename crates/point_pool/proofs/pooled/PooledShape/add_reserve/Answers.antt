use Rattle.point_pool.proofs.Lemmas.{Frame-changes}
use Rattle.point_pool.proofs.pooled.PooledShape.add_reserve.Goals as goal

pub returns-clause-frame : goal.returns-clause-frame
returns-clause-frame c =
    Frame-changes c.args.home.now c.replace-self.new.self _ _
    (rw (c.add_reserve-left.ensures.slots, c.load.ensures.slots) at c.replace-self.ensures.replaced.changes)
