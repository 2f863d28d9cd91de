use Rattle.point_pool.proofs.Common.{differ, slot_if_used}
use Rattle.point_pool.proofs.Lemmas.{Frame-changes, changes_released}
use Rattle.point_pool.proofs.pooled.PooledShape.give_back.Goals as goal

pub returns-clause-frame : goal.returns-clause-frame
returns-clause-frame c = Frame-changes c.args.home.now c.release.new.self _ _
    (changes_released _ _ _ c.release.ensures.released)

pub returns-clause-free : goal.returns-clause-free
returns-clause-free c = λ n a used. differ (slot_if_used c.release.new.self.slots.items n used)
    (c.release.ensures.released.unused n a)
